-- Histories and lists that go on by one call.
use Rattle.std.proofs.Common.{◌≡◌, ℕ, ◌+◌, ◌-◌, ◌<◌, Bool, true, false, List, [], ◌∷◌, ◌++◌, map, length, get_or, take, drop, Some, None, Ok, Err, Option, Result, sym, refl, ap, ◌∙◌, subst, arith}
use mathlib.Core.Bool.{false≢true}
use Rattle.std.proofs.lemmas.List.{take_more, map_push, length_push, get_or_push}
use Rattle.std.proofs.lemmas.Option.{slice_get_read}
use Rattle.std.specs.Result.{result_ok}
use Rattle.std.proofs.lemmas.Option.{same_Some}
use Rattle.model.specs.declared.Denial.{Denial}
use Rattle.model.specs.declared.Record.{Record}
use Rattle.model.specs.declared.StepAnswer.{StepAnswer}
use Rattle.model.specs.declared.StepAnswer.TheVariants.{Done, Waiting, Interrupted}
use Rattle.model.specs.Stores.{Store}
use Rattle.model.specs.Buses.{Bus}
use Rattle.model.specs.States.{State}
use Rattle.model.specs.Steps.{Ending, finished, waiting, took, stepped as step_of}
use Rattle.model.specs.Answers.{Answer, denied, done, shown, stepped, ran, played, faulted}
use Rattle.model.specs.Console.{Desk, made, did_step, unless_denied, denial, Act, call, told, tell, Told}
use Rattle.instructions.specs.Instructions.{instruction}
use Rattle.console.specs.View.{stepped_by}
use Rattle.model.specs.Calls.{Reached, new, called, ran as by_run, played as by_tape, Continued, step, Event, unseen, answered, interrupted, seen, Course, quiet, broken, ahead, joined, after, event, course}
use Rattle.model.proofs.Whole.{isolation}
use Rattle.comparison.specs.declared.calls.Call.{Call}
use Rattle.comparison.specs.declared.calls.Call.TheVariants.{TurnKey, Initialise, Examine, Deposit, Set, Show, Step, Run, Play}
use Rattle.comparison.specs.declared.calls.Continued.{Continued as Asking}
use Rattle.comparison.specs.Lists.{Performs, PerformsAll, AskedAs, AllAsked, is_interrupt, tells_interrupt, ends_interrupted, Reports, FollowedOne, with_added, with_all_added, after_all, Tells, Followed, Given, Left, Gone, Compared}

-- ── Histories ──
performs_none : (size : ℕ) (w : Desk) (q : List Record) → PerformsAll size [] w q w q
unfolding PerformsAll
performs_none size w q = (refl, refl)

pub performs_start : (size : ℕ) (cs : List Call) (w : Desk) (q : List Record) → PerformsAll size (take 0 cs) w q w q
performs_start size cs w q = performs_none size w q

performs_push : (size : ℕ) (cs : List Call) (c : Call) (w u v : Desk) (q r p : List Record) → PerformsAll size cs w q u r → Performs size c u r v p → PerformsAll size (cs ++ c ∷ []) w q v p
unfolding PerformsAll
performs_push size [] c w u v q r p h one = (v, p, subst (λ (x : Desk). Performs size c x q v p) h.0 (subst (λ (x : List Record). Performs size c u x v p) h.1 one), (refl, refl))
performs_push size (d ∷ cs) c w u v q r p h one = (h.0, h.1, h.2, performs_push size cs c h.0 u v h.1 r p h.3 one)

pub performs_more :
    (size had : ℕ) (cs : List Call) (i : ℕ) (c : Call) (w u v : Desk) (q r p : List Record) →
    i < length cs → c ≡ get_or cs i c → PerformsAll size (take i cs) w q u r → Performs had c u r v p → had ≡ size → PerformsAll size (take (i + 1) cs) w q v p
performs_more size had cs i c w u v q r p l is h one same =
    let more : take (i + 1) cs ≡ take i cs ++ c ∷ [] = take_more cs i c l ∙ ap (λ (z : Call). take i cs ++ z ∷ []) (sym is) in
    subst (λ (z : List Call). PerformsAll size z w q v p) (sym more) (performs_push size (take i cs) c w u v q r p h (subst (λ (z : ℕ). Performs z c u r v p) same one))

-- ── A step that is asked ──
abbrev told_of : Answer → Option StepAnswer
told_of (denied n) = None
told_of done = None
told_of (shown n) = None
told_of (stepped s) = Some s
told_of (ran n r) = None
told_of (played n) = None
told_of (faulted n p l) = None

reported : (o : Option ℕ) (w : Desk) (e : Ending) → Reports (seen (unless_denied o w (did_step w e)).answer (unless_denied o w (did_step w e)).added) (told_of (unless_denied o w (did_step w e)).answer)
reported (Some n) w e = refl
reported None w (finished s) = (Done, refl, refl, refl)
reported None w (waiting s) = (Waiting, refl, refl, refl)
reported None w (took r s) = (Interrupted r.cause, refl, refl, refl)

pub told_ok : (r : Result StepAnswer Denial) (o : Option StepAnswer) → o ≡ result_ok r → told_of (stepped_by r) ≡ o
told_ok (Ok a) o e = sym e
told_ok (Err d) o e = sym e

abbrev answer_in : Told → Answer
answer_in (told a v p) = a

abbrev desk_in : Told → Desk
desk_in (told a v p) = v

abbrev trace_in : Told → List Record
trace_in (told a v p) = p

pub step_followed :
    (room : ℕ) (reply : Bus) (w v : Desk) (q p : List Record) (a : Answer) (r : Option StepAnswer) →
    tell q (call instruction (Act.step room reply) w) ≡ told a v p → told_of a ≡ r →
    (after instruction (step room reply) w ≡ v) × (with_added (step room reply) w q ≡ p) × Reports (event instruction (step room reply) w) r
step_followed room reply w v q p a r e er =
    let ans : (call instruction (Act.step room reply) w).answer ≡ a = ap answer_in e in
    (ap desk_in e, ap trace_in e, subst (λ (z : Option StepAnswer). Reports (event instruction (step room reply) w) z) (ap told_of ans ∙ er) (reported (denial (Act.step room reply) w) w (step_of instruction reply w.core)))

-- ── Lists ──
-- A course with one more call behind it.
abbrev extended : Course → Event → State → Course
extended (broken xs r s) e t = broken xs r s
extended (quiet xs s) unseen t = quiet xs t
extended (quiet xs s) (answered a) t = quiet (xs ++ a ∷ []) t
extended (quiet xs s) (interrupted a r) t = broken (xs ++ a ∷ []) r t

ahead_extended : (a : Answer) (c : Course) (e : Event) (t : State) → ahead a (extended c e t) ≡ extended (ahead a c) e t
ahead_extended a (broken xs r s) e t = refl
ahead_extended a (quiet xs s) unseen t = refl
ahead_extended a (quiet xs s) (answered b) t = refl
ahead_extended a (quiet xs s) (interrupted b r) t = refl

joined_extended : (d : Event) (s : State) (c : Course) (e : Event) (t : State) → joined d s (extended c e t) ≡ extended (joined d s c) e t
joined_extended unseen s c e t = refl
joined_extended (answered a) s c e t = ahead_extended a c e t
joined_extended (interrupted a r) s c e t = refl

one_alone : (e : Event) (s t : State) → joined e t (quiet [] t) ≡ extended (quiet [] s) e t
one_alone unseen s t = refl
one_alone (answered a) s t = refl
one_alone (interrupted a r) s t = refl

course_more : (l : List Continued) (c : Continued) (w : Desk) → course instruction (l ++ c ∷ []) w ≡ extended (course instruction l w) (event instruction c (after_all l w)) (after instruction c (after_all l w)).core
course_more [] c w = one_alone (event instruction c w) w.core (after instruction c w).core
course_more (d ∷ l) c w =
    ap (λ (x : Course). joined (event instruction d w) (after instruction d w).core x) (course_more l c (after instruction d w))
    ∙ joined_extended (event instruction d w) (after instruction d w).core (course instruction l (after instruction d w)) (event instruction c (after_all l (after instruction d w))) (after instruction c (after_all l (after instruction d w))).core

after_more : (l : List Continued) (c : Continued) (w : Desk) → after_all (l ++ c ∷ []) w ≡ after instruction c (after_all l w)
after_more [] c w = refl
after_more (d ∷ l) c w = after_more l c (after instruction d w)

added_more : (l : List Continued) (c : Continued) (w : Desk) (q : List Record) → with_all_added (l ++ c ∷ []) w q ≡ with_added c (after_all l w) (with_all_added l w q)
added_more [] c w q = refl
added_more (d ∷ l) c w q = added_more l c (after instruction d w) (with_added d w q)

asked_more :
    (size : ℕ) (xs : List Asking) (l : List Continued) (x : Asking) (c : Continued) (w : Desk) (q : List Record) →
    AllAsked size xs l w q → AskedAs (size - length (with_all_added l w q)) x c → AllAsked size (xs ++ x ∷ []) (l ++ c ∷ []) w q
asked_more size [] [] x c w q h one = (one, tt)
asked_more size [] (d ∷ l) x c w q h one = absurd h
asked_more size (y ∷ xs) [] x c w q h one = absurd h
asked_more size (y ∷ xs) (d ∷ l) x c w q h one = (h.0, asked_more size xs l x c (after instruction d w) (with_added d w q) h.1 one)

pushed :
    (xs : List Answer) (ys zs : List StepAnswer) (a : Answer) (x y : StepAnswer) →
    xs ≡ map stepped ys → a ≡ stepped y → Some x ≡ Some y → zs ≡ ys ++ x ∷ [] → xs ++ a ∷ [] ≡ map stepped zs
pushed xs ys zs a x y ex ea er ez =
    ap (λ (l : List Answer). l ++ a ∷ []) ex ∙ (ap (λ (z : Answer). map stepped ys ++ z ∷ []) (ea ∙ ap stepped (sym (same_Some x y er))) ∙ (sym (map_push stepped ys x) ∙ ap (map stepped) (sym ez)))

-- An answer that is added is the last.
ends_push : (ys : List StepAnswer) (x : StepAnswer) → ends_interrupted (ys ++ x ∷ []) ≡ is_interrupt x
ends_push ys x =
    let zs = ys ++ x ∷ [] in
    let long : length zs ≡ length ys + 1 = length_push ys x in
    let at : length ys ≡ length zs - 1 = omega arith in
    let within : length zs - 1 < length zs = omega arith in
    ap tells_interrupt (slice_get_read zs (length zs) (length zs - 1) x refl within (sym (get_or_push ys x x (length zs - 1) at)))

ends_with : (ys zs : List StepAnswer) (x y : StepAnswer) → zs ≡ ys ++ x ∷ [] → Some x ≡ Some y → ends_interrupted zs ≡ is_interrupt y
ends_with ys zs x y ez er = ap ends_interrupted ez ∙ (ends_push ys x ∙ ap is_interrupt (same_Some x y er))

-- What is known of the program after one more call: an answer more, unless there was an interrupt.
abbrev pub Noted : Option StepAnswer → List StepAnswer → Bool → List StepAnswer → Type 0
Noted None ys b zs = zs ≡ ys
Noted (Some s) ys true zs = zs ≡ ys
Noted (Some s) ys false zs = zs ≡ ys ++ s ∷ []

-- What is told of a course and of one more call is told of both.
tells_more :
    (c : Course) (e : Event) (t : State) (r : Option StepAnswer) (ys zs : List StepAnswer) (b : Bool) →
    ends_interrupted ys ≡ b → Tells c ys → Reports e r → Noted r ys b zs → Tells (extended c e t) zs
tells_more (broken xs k s) e t None ys zs b is h p n = (h.0 ∙ ap (map stepped) (sym n), ap ends_interrupted n ∙ h.1)
tells_more (broken xs k s) e t (Some x) ys zs true is h p n = (h.0 ∙ ap (map stepped) (sym n), ap ends_interrupted n ∙ h.1)
tells_more (broken xs k s) e t (Some x) ys zs false is h p n = absurd (false≢true (sym is ∙ h.1))
tells_more (quiet xs s) unseen t None ys zs b is h p n = (h.0 ∙ ap (map stepped) (sym n), ap ends_interrupted n ∙ h.1)
tells_more (quiet xs s) unseen t (Some x) ys zs b is h p n = let z : ◌≡◌ {A = ℕ} 0 1 = cc in absurd (omega arith)
tells_more (quiet xs s) (answered a) t None ys zs b is h p n = let q = p.2 in let z : ◌≡◌ {A = ℕ} 0 1 = cc in absurd (omega arith)
tells_more (quiet xs s) (answered a) t (Some x) ys zs true is h p n = absurd (false≢true (sym h.1 ∙ is))
tells_more (quiet xs s) (answered a) t (Some x) ys zs false is h p n = (pushed xs ys zs a x p.0 h.0 p.1 p.2 n, ends_with ys zs x p.0 n p.2 ∙ p.3)
tells_more (quiet xs s) (interrupted a k) t None ys zs b is h p n = let q = p.2 in let z : ◌≡◌ {A = ℕ} 0 1 = cc in absurd (omega arith)
tells_more (quiet xs s) (interrupted a k) t (Some x) ys zs true is h p n = absurd (false≢true (sym h.1 ∙ is))
tells_more (quiet xs s) (interrupted a k) t (Some x) ys zs false is h p n = (pushed xs ys zs a x p.0 h.0 p.1 p.2 n, ends_with ys zs x p.0 n p.2 ∙ p.3)

-- How one more answer is noted: behind the others, not after an interrupt, and not where there is none.
pub noted_behind :
    (r : Option StepAnswer) (x : StepAnswer) (ys zs : List StepAnswer) → r ≡ Some x → ends_interrupted ys ≡ false → zs ≡ ys ++ x ∷ [] →
    Noted r ys (ends_interrupted ys) zs
noted_behind r x ys zs is quiet_yet e =
    subst (λ (o : Option StepAnswer). Noted o ys (ends_interrupted ys) zs) (sym is) (subst (λ (b : Bool). Noted (Some x) ys b zs) (sym quiet_yet) e)

pub noted_after :
    (r : Option StepAnswer) (x : StepAnswer) (ys zs : List StepAnswer) → r ≡ Some x → ends_interrupted ys ≡ true → zs ≡ ys →
    Noted r ys (ends_interrupted ys) zs
noted_after r x ys zs is over e =
    subst (λ (o : Option StepAnswer). Noted o ys (ends_interrupted ys) zs) (sym is) (subst (λ (b : Bool). Noted (Some x) ys b zs) (sym over) e)

pub noted_none : (r : Option StepAnswer) (ys zs : List StepAnswer) → r ≡ None → zs ≡ ys → Noted r ys (ends_interrupted ys) zs
noted_none r ys zs is e = subst (λ (o : Option StepAnswer). Noted o ys (ends_interrupted ys) zs) (sym is) e

pub followed_start : (size : ℕ) (asked : List Asking) (w : Desk) (q : List Record) (ys : List StepAnswer) → ys ≡ [] → Followed size (take 0 asked) w q ys w q
followed_start size asked w q ys e = record { list = []; each = tt; leads = refl; adds = refl; tells = (ap (map stepped) (sym e), ap ends_interrupted e) }

pub followed_more :
    (size had : ℕ) (asked : List Asking) (i : ℕ) (x : Asking) (w u v : Desk) (q s p : List Record) (ys zs : List StepAnswer) (r : Option StepAnswer) →
    i < length asked → x ≡ get_or asked i x → Followed size (take i asked) w q ys u s → FollowedOne had x u s r v p → had ≡ size → Noted r ys (ends_interrupted ys) zs →
    Followed size (take (i + 1) asked) w q zs v p
followed_more size had asked i x w u v q s p ys zs r l is h one same n =
    let more : take (i + 1) asked ≡ take i asked ++ x ∷ [] = take_more asked i x l ∙ ap (λ (z : Asking). take i asked ++ z ∷ []) (sym is) in
    let c = one.what in
    let list = h.list in
    let at = h.leads in
    let told : Reports (event instruction c (after_all list w)) r = subst (λ (z : Desk). Reports (event instruction c z) r) (sym at) one.tells in
    let room : AskedAs (size - length (with_all_added list w q)) x c = subst (λ (z : List Record). AskedAs (size - length z) x c) (sym h.adds) (subst (λ (z : ℕ). AskedAs (z - length s) x c) same one.each) in
    subst (λ (z : List Asking). Followed size z w q zs v p) (sym more)
    (record {
      list = list ++ c ∷ [];
      each = asked_more size (take i asked) list x c w q h.each room;
      leads = after_more list c w ∙ (ap (λ (z : Desk). after instruction c z) at ∙ one.leads);
      adds = added_more list c w q ∙ (ap (λ (z : Desk). with_added c z (with_all_added list w q)) at ∙ (ap (with_added c u) h.adds ∙ one.adds));
      tells =
          subst (λ (z : Course). Tells z zs) (sym (course_more list c w))
          (tells_more (course instruction list w) (event instruction c (after_all list w)) (after instruction c (after_all list w)).core r ys zs (ends_interrupted ys) refl h.tells told n);
    })

-- ── What a history reaches ──
reached_one : {m : Store} {b : Bus} (size : ℕ) (c : Call) (w v : Desk) (q p : List Record) → Performs size c w q v p → Reached instruction m b w → Reached instruction m b v
reached_one {m} {b} size (TurnKey n) w v q p h r = subst (Reached instruction m b) h.0 (called (Act.turn_key n) r)
reached_one {m} {b} size Initialise w v q p h r = subst (Reached instruction m b) h.0 (called Act.initialise r)
reached_one {m} {b} size (Examine a) w v q p h r = subst (Reached instruction m b) h.0 (called (Act.examine a) r)
reached_one {m} {b} size (Deposit a x) w v q p h r = subst (Reached instruction m b) h.0 (called (Act.deposit a x) r)
reached_one {m} {b} size (Set i x) w v q p h r = subst (Reached instruction m b) h.0 (called (Act.set_item i x) r)
reached_one {m} {b} size (Show i) w v q p h r = subst (Reached instruction m b) h.0 (called (Act.show_item i) r)
reached_one {m} {b} size Step w v q p h r = subst (Reached instruction m b) (ap desk_in h.2) (called (Act.step (size - length q) h.0) r)
reached_one size (Run count) w v q p h r = by_run size count q p h.0 r h.1
reached_one size (Play tape) w v q p h r = by_tape size tape.now q p h.0 r h.1

reached_all : {m : Store} {b : Bus} (size : ℕ) (cs : List Call) (w v : Desk) (q p : List Record) → PerformsAll size cs w q v p → Reached instruction m b w → Reached instruction m b v
unfolding PerformsAll
reached_all {m} {b} size [] w v q p h r = subst (Reached instruction m b) (sym h.0) r
reached_all size (c ∷ cs) w v q p h r = reached_all size cs h.0 v h.1 p h.3 (reached_one size c w h.0 q h.1 h.2 r)

-- ── Two machines ──
pub gone :
    {g : Given} {l : Left} {size room : ℕ} {list : List Asking} {w start : Desk} {q trace last : List Record} →
    size ≡ length g.slots → room ≡ length g.slots → w ≡ made g.store g.bus → q ≡ [] → list ≡ g.list →
    PerformsAll size g.past w q start trace → Followed room list start trace l.answers l.machine last → l.slots ≡ last ++ drop (length last) g.slots →
    Gone g l
gone {g} {l} {size} {room} {list} {w} {start} {q} {trace} {last} made_with kept_with is empty asked past followed slots =
    let cap = length g.slots in
    let pasts : PerformsAll cap g.past (made g.store g.bus) [] start trace =
    subst (λ (z : List Record). PerformsAll cap g.past (made g.store g.bus) z start trace) empty
    (subst (λ (z : Desk). PerformsAll cap g.past z q start trace) is (subst (λ (k : ℕ). PerformsAll k g.past w q start trace) made_with past)) in
    record {
      start = start;
      trace = trace;
      pasts = pasts;
      reached = reached_all cap g.past (made g.store g.bus) start [] trace pasts new;
      last = last;
      followed =
          subst (λ (z : List Asking). Followed cap z start trace l.answers l.machine last) asked
          (subst (λ (k : ℕ). Followed k list start trace l.answers l.machine last) kept_with followed);
      slots = slots;
    }

pub compared : {g h : Given} {l r : Left} → Gone g l → Gone h r → Compared g h l r
compared {g} {h} one other = record {
  one = one;
  other = other;
  isolated = λ alike i j.
      isolation instruction g.store h.store g.bus h.bus one.start other.start one.reached other.reached alike (take i one.followed.list)
      (take j other.followed.list);
}
