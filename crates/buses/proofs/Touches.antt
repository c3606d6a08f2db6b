-- What any number of touches make of a new teletype and of new drives.
use Rattle.std.proofs.Common.{rules, ◌≡◌, ◌*◌, Some, None, Option, ℕ, zero, suc, ◌+◌, ◌%◌, ◌^◌, ◌<◌, List, [], ◌∷◌, length, drop, set, get_or, replicate, refl, sym, ap, ◌∙◌, subst, arith}
use Rattle.std.proofs.Math.Nat.{mod-add-mod}
use Rattle.std.proofs.Math.Numerals.{suc-eq-add-one}
use Rattle.std.proofs.lemmas.List.Elements.{All-set, All-replicate, All-cons, All-nil, All-head, All-tail}
use Rattle.std.proofs.lemmas.List.{length-set}
use Rattle.std.specs.List.{All}
use Rattle.queue.specs.declared.Queue.{Queue}
use Rattle.queue.specs.Rows.{queued}
use Rattle.model.specs.Buses.{counted}
use Rattle.bus.specs.Touches.{Becomes, untouched, once_more}
use Rattle.bus.specs.declared.usage.Usage.{Usage}
use Rattle.bus.specs.Usages.{unused, once_read, once_written, once_commanded}
use Rattle.buses.specs.Devices.{rest, new_drive, drive_read, drive_written, drive_commanded}
use Rattle.buses.specs.Touches.{TeletypeTouched, by_read, by_write, by_command, DrivesTouched, one_read, one_written, one_commanded, TeletypeAfter, DriveAfter, DrivesAfter}
use Rattle.buses.specs.declared.teletype.Teletype.{Teletype}
use Rattle.buses.specs.declared.drives.Drive.{Drive}
use Rattle.buses.specs.declared.drives.Drives.{Drives}

-- what each touch keeps, any number of touches keep
kept : {X : Type 0} {touched : X → X → Type 0} (P : X → Type 0) {a b : X} → ((x y : X) → P x → touched x y → P y) → P a → Becomes touched a b → P b
kept P keeps p untouched = p
kept P keeps p (once_more q t) = keeps _ _ (kept P keeps p q) t

-- one more, counted
count_more : (n m : ℕ) → n ≡ m % 2 ^ 32 → counted n ≡ (m + 1) % 2 ^ 32
count_more n m e = ap counted e ∙ mod-add-mod m (2 ^ 32) 1

-- ── The teletype ──
rest_drop : (k : ℕ) (xs : List ℕ) → rest (drop k xs) ≡ drop (suc k) xs
rest_drop zero [] = refl
rest_drop zero (x ∷ xs) = refl
rest_drop (suc k) [] = refl
rest_drop (suc k) (x ∷ xs) = rest_drop k xs

unread : (keys : Queue ℕ) (t : Teletype) (u : Usage) → u.reads ≡ t.usage.reads → TeletypeAfter keys t → TeletypeAfter keys (record t { usage = u })
unread keys t u e p = record { reads = p.reads; count = e ∙ p.count; bytes = p.bytes; same = p.same; slots = p.slots }

teletype_touched : (keys : Queue ℕ) (x y : Teletype) → TeletypeAfter keys x → TeletypeTouched x y → TeletypeAfter keys y
teletype_touched keys x y p (by_read r) =
    record {
      reads = p.reads + 1;
      count = ap (λ (u : Usage). u.reads) r.counted ∙ count_more x.usage.reads p.reads p.count;
      bytes = r.bytes ∙ ap rest p.bytes ∙ rest_drop p.reads (queued keys) ∙ ap (λ k. drop k (queued keys)) (suc-eq-add-one p.reads);
      same = record { loan = r.same.loan ∙ p.same.loan; size = r.same.size ∙ p.same.size };
      slots = r.slots ∙ p.slots;
    }
teletype_touched keys x y p (by_write v e) = subst (TeletypeAfter keys) (sym e) (unread keys x (once_written v x.usage) refl p)
teletype_touched keys x y p (by_command v e) = subst (TeletypeAfter keys) (sym e) (unread keys x (once_commanded v x.usage) refl p)

new_teletype : (keys : Queue ℕ) (t : Teletype) → t.waiting ≡ keys → t.usage ≡ unused → TeletypeAfter keys t
new_teletype keys t w u =
    record {
      reads = 0;
      count = ap (λ (x : Usage). x.reads) u;
      bytes = ap queued w;
      same = record { loan = ap (λ (q : Queue ℕ). q.slots.ghost_name) w; size = ap (λ (q : Queue ℕ). length q.slots.now) w };
      slots = ap (λ (q : Queue ℕ). q.slots.now) w;
    }

pub teletype_after : (keys : Queue ℕ) (a b : Teletype) → a.waiting ≡ keys → a.usage ≡ unused → Becomes TeletypeTouched a b → TeletypeAfter keys b
teletype_after keys a b w u = kept (TeletypeAfter keys) (teletype_touched keys) (new_teletype keys a w u)

-- ── The drives ──
new_after : DriveAfter new_drive
new_after = record { pairs = []; bytes = All-nil _; half = search rules; position = refl; latest = refl; count = refl }

used_after : (d : Drive) (u : Usage) → u.latest ≡ d.usage.latest → u.writes ≡ d.usage.writes → DriveAfter d → DriveAfter (record d { usage = u })
used_after d u l w p =
    record { pairs = p.pairs; bytes = p.bytes; half = p.half; position = p.position; latest = l ∙ p.latest; count = w ∙ p.count }

-- a byte begins a pair or ends one
sent_after : (v : ℕ) → v < 256 → (u : Usage) (k : ℕ) (h : Option ℕ) → DriveAfter (record { usage = u; position = k; high = h }) → DriveAfter (drive_written v (record { usage = u; position = k; high = h }))
sent_after v l u k None p =
    record { pairs = p.pairs; bytes = p.bytes; half = l; position = p.position; latest = refl; count = count_more u.writes (length p.pairs * 2) p.count }
sent_after v l u k (Some h) p =
    record {
      pairs = (h, v) ∷ p.pairs;
      bytes = All-cons (λ (pair : ℕ × ℕ). (pair.0 < 256) × (pair.1 < 256)) (h, v) p.pairs (p.half, l) p.bytes;
      half = search rules;
      position = refl;
      latest = refl;
      count = count_more u.writes (length p.pairs * 2 + 1) p.count ∙ ap (λ n. n % 2 ^ 32) (omega arith);
    }

written_after : (v : ℕ) → v < 256 → (d : Drive) → DriveAfter d → DriveAfter (drive_written v d)
written_after v l d = sent_after v l d.usage d.position d.high

get_of_all : {X : Type 0} (P : X → Type 0) (xs : List X) (i : ℕ) (d : X) → P d → All P xs → P (get_or xs i d)
get_of_all P [] i d p q = p
get_of_all P (x ∷ xs) zero d p q = All-head P x xs q
get_of_all P (x ∷ xs) (suc i) d p q = get_of_all P xs i d p (All-tail P x xs q)

one_changed : (f : Drive → Drive) → ((d : Drive) → DriveAfter d → DriveAfter (f d)) → (ds : List Drive) (i : ℕ) → DrivesAfter ds → DrivesAfter (set ds i (f (get_or ds i new_drive)))
one_changed f keeps ds i p =
    let here = get_of_all DriveAfter ds i new_drive new_after p.each in
    record { size = length-set ds i _ ∙ p.size; each = All-set DriveAfter ds i _ (keeps _ here) p.each }

drives_touched : (x y : Drives) → DrivesAfter x.drives → DrivesTouched x y → DrivesAfter y.drives
drives_touched x y p (one_read n i e) = subst DrivesAfter (sym e) (one_changed drive_read (λ d. used_after d (once_read d.usage) refl refl) x.drives _ p)
drives_touched x y p (one_written n v i l e) = subst DrivesAfter (sym e) (one_changed (drive_written v) (written_after v l) x.drives _ p)
drives_touched x y p (one_commanded n v i e) = subst DrivesAfter (sym e) (one_changed (drive_commanded v) (λ d. used_after d (once_commanded v d.usage) refl refl) x.drives _ p)

pub drives_after : (a b : Drives) → a.drives ≡ replicate 8 new_drive → Becomes DrivesTouched a b → DrivesAfter b.drives
drives_after a b e =
    let start : DrivesAfter a.drives = subst DrivesAfter (sym e) (record { size = refl; each = All-replicate DriveAfter 8 new_drive new_after }) in
    kept (λ (d : Drives). DrivesAfter d.drives) drives_touched start
