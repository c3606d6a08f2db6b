-- The search for the lowest request, device by device.
use Rattle.std.proofs.Common.{◌≡◌, ℕ, zero, suc, ◌+◌, ◌≤◌, true, false, cond, Some, None, Option, refl, sym, ap, subst, ⊎_elim, arith}
use Rattle.std.proofs.lemmas.Bool.{cases_lt}
use Rattle.model.specs.Buses.{Bus, first_from, lowest}
use Rattle.model.specs.Requests.{NoneBelow, IsLowestRequester, NoneRequests, LowestIsTaken}

-- None below k + 1 does where none below k does, nor device k.
pub none_below_next : (b : Bus) (k : ℕ) → NoneBelow b k → (b k).requests ≡ false → NoneBelow b (k + 1)
none_below_next b k quiet here j p q = ⊎_elim (λ before. quiet j p before) (λ at. let e : j ≡ k = omega arith in rw e here) (cases_lt j k)

-- What a search finds: the first device that requests, or that none does.
abbrev pub Found : Bus → Option ℕ → Type 0
Found b None = NoneRequests b
Found b (Some n) = IsLowestRequester b n

found_from : (b : Bus) (n k : ℕ) → 1 ≤ k → k + n ≡ 256 → NoneBelow b k → Found b (first_from b n k)
unfolding first_from
found_from b zero k l e quiet = let z : k ≡ 256 = omega arith in rw z at quiet
found_from b (suc n) k l e quiet =
    elim (b k).requests as (λ x. (b k).requests ≡ x → Found b (cond x (Some k) (first_from b n (k + 1)))) [
      | true ↦ λ here. record { from = l; to = omega arith; requests = here; none_lower = quiet }
      | false ↦ λ here. found_from b n (k + 1) (omega arith) (omega arith) (none_below_next b k quiet here)
    ] refl

pub lowest_finds : (b : Bus) → Found b (lowest b)
unfolding lowest
lowest_finds b = found_from b 255 1 (omega arith) (omega arith) (λ j l m. absurd (omega arith))

-- Two searches find the same.
both_found : (b : Bus) (x y : Option ℕ) → Found b x → Found b y → x ≡ y
both_found b None None p q = refl
both_found b None (Some e) p q = cc (p e q.from (omega (arith, q.to)))
both_found b (Some d) None p q = cc (q d p.from (omega (arith, p.to)))
both_found b (Some d) (Some e) p q =
    ⊎_elim
    (λ less. cc (q.none_lower d p.from less))
    (λ most. ⊎_elim
    (λ less. cc (p.none_lower e q.from less))
    (λ least. let same : d ≡ e = omega arith in ap Some same)
    (cases_lt e d))
    (cases_lt d e)

-- So what a search finds is the lowest, and only that.
pub is_lowest : (b : Bus) (x : Option ℕ) → Found b x → x ≡ lowest b
is_lowest b x p = both_found b x (lowest b) p (lowest_finds b)

found_lowest : (b : Bus) (x : Option ℕ) → lowest b ≡ x → Found b x
found_lowest b x e = subst (Found b) e (lowest_finds b)

pub lowest_is_taken : LowestIsTaken
lowest_is_taken = record {
  device = λ b n. (found_lowest b (Some n), λ h. sym (is_lowest b (Some n) h));
  none = λ b. (found_lowest b None, λ h. sym (is_lowest b None h));
}
