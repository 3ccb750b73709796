-- From the remainder to what `divides` and `append` promise.
--     attached                              the check bits of bytes
--     known-listed                          whether there is a check of length r
--     dividing-is, -not, fed-tells          what `divides` answers
--     fitting-..                            what `fits` tells
--     appending-is, -not                    what `append` leaves
use mathlib.Core.Path.{◌≡◌, refl, sym, ap, ◌∙◌}
use mathlib.Core.Logic.{◌⊎◌, ⊎_elim}
use Prim.Native.Nat.{ℕ, ◌+◌}
use mathlib.Core.Bool.{true, false}
use mathlib.Core.List.{List, ◌++◌, map}
use lib.ListN.{length, replicate}
use lib.Dec.{eqb}
use borrow.Author.Tests.{eq-eqb, ne_eqb}
use Rattle.bits.specs.Vectors.{bit}
use Rattle.meaning.specs.Limits.{leads}
use Rattle.meaning.specs.Check.{poly, divides}
use Rattle.meaning.specs.Payload.{remainder}
use Rattle.meaning.specs.Answers.{is_one}
use Rattle.division.specs.Division.{to_bits, Fed, listed, fitting, dividing, appending}
use Rattle.division.proofs.Division.{remainder_is, fed-zero}

-- ---- the check bits

pub attached : (p : List ℕ) (r k w : ℕ) (b : List ℕ) → k ≡ r → b ≡ map bit (to_bits k w) → Fed r (map is_one p ++ replicate r false) w → b ≡ map bit (remainder (poly r) (leads r ++ map is_one p))
attached p r k w b e eb f = eb ∙ ap (λ (n : ℕ). map bit (to_bits n w)) e ∙ ap (map bit) (remainder_is r (map is_one p) w f)

-- ---- whether there is a check of length r

pub known-listed : (r : ℕ) → (r ≡ 0) ⊎ ((r ≡ 6) ⊎ (r ≡ 11)) → listed r ≡ true
unfolding listed
known-listed r = ⊎_elim (λ e. rw e refl) (⊎_elim (λ e. rw e refl) (λ e. rw e refl))

-- ---- what `divides` answers

pub dividing-not : (r : ℕ) (l : List ℕ) → listed r ≡ false → dividing r l ≡ false
unfolding dividing
dividing-not r l h = rw h

pub dividing-is : (r : ℕ) (l : List ℕ) → listed r ≡ true → dividing r l ≡ divides r (leads r ++ map is_one l)
unfolding dividing
dividing-is r l h = rw h

pub fed-tells : (r : ℕ) (l : List ℕ) (s : ℕ) → listed r ≡ true → Fed r (map is_one l) s → eqb s 0 ≡ dividing r l
fed-tells r l s h f = sym (dividing-is r l h ∙ fed-zero r (map is_one l) s f)

-- ---- what `fits` tells

pub fitting-unlisted : (k r room : ℕ) → listed r ≡ false → fitting k r room ≡ false
unfolding fitting
fitting-unlisted k r room h = rw h

pub fitting-other : (k r room : ℕ) → listed r ≡ true → (room ≡ k + r → ⊥) → fitting k r room ≡ false
unfolding fitting
fitting-other k r room h n = rw h (ne_eqb room (k + r) n)

pub fitting-is : (k r room : ℕ) → (r ≡ 0) ⊎ ((r ≡ 6) ⊎ (r ≡ 11)) → room ≡ k + r → fitting k r room ≡ true
unfolding fitting
fitting-is k r room h e = rw (known-listed r h) (eq-eqb room (k + r) e)

-- ---- what `append` leaves

pub appending-is : (r : ℕ) (l out : List ℕ) → fitting (length l) r (length out) ≡ true → appending r l out ≡ l ++ map bit (remainder (poly r) (leads r ++ map is_one l))
unfolding appending
appending-is r l out h = rw h

pub appending-not : (r : ℕ) (l out : List ℕ) → fitting (length l) r (length out) ≡ false → appending r l out ≡ out
unfolding appending
appending-not r l out h = rw h
