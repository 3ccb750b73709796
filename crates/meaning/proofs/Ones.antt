-- The check starts from ones: the sequence that the check polynomial divides is r ones, then the K free bits.
--     starts_from        its register starts from the ones: they fill it, and nothing goes out
--     ones_divided       the remainder is zero exactly when a quotient exists, and this has K bits
--     check-constant     the payload's check bits are its own remainder plus r bits that all payloads of its length share
use mathlib.Core.Path.{◌≡◌, refl, sym, ap, ap₂, ◌∙◌}
use mathlib.Core.Logic.{◌↔◌}
use Prim.Native.Nat.{ℕ, ◌+◌}
use mathlib.Core.Bool.{Bool, true, false}
use mathlib.Core.List.{List, ◌++◌, append_assoc}
use lib.ListN.{length, replicate, length-append, length-replicate}
use Rattle.bits.specs.Vectors.{◌⊞◌}
use Rattle.bits.proofs.Xor.{⊞-comm, append_⊞, none, ⊞-none, length_none}
use Rattle.meaning.specs.Limits.{leads}
use Rattle.meaning.specs.Payload.{remainder}
use Rattle.meaning.specs.Check.{rest, poly, divides}
use Rattle.meaning.proofs.Remainder.{length-poly, rest_append, rest_fills}
use Rattle.meaning.proofs.Divide.{times, R, R-⊞, R-zeros, divides_iff}

pub length-leads : (r : ℕ) → length (leads r) ≡ r
unfolding leads
length-leads r = length-replicate r _

-- r bits that are shifted into zeros stay
pub starts_from : (r : ℕ) (v : List Bool) → rest (poly r) (replicate r false) (leads r ++ v) ≡ rest (poly r) (leads r) v
unfolding none
starts_from r v =
    rest_append (poly r) (replicate r false) (leads r) v
    ∙ ap (λ (s : List Bool). rest (poly r) s v) (ap (λ (k : ℕ). rest (poly r) (replicate k false) (leads r)) (sym (length-poly r)) ∙ rest_fills (poly r) (leads r) (length-leads r ∙ sym (length-poly r)))

-- the free bits f keep the check exactly when r ones and f are the polynomial times some q of as many bits as f
pub ones_divided : (r : ℕ) (f : List Bool) → (divides r (leads r ++ f) ≡ true) ↔ ((q : List Bool) × (length q ≡ length f) × (leads r ++ f ≡ times (poly r) q))
ones_divided r f = divides_iff r (length f) (leads r ++ f) (length-append (leads r) f ∙ ap (λ (k : ℕ). k + length f) (length-leads r))

-- ---- a rule with a constant

-- the check bits of a payload of k zeros
abbrev pub constant : ℕ → ℕ → List Bool
constant r k = remainder (poly r) (leads r ++ none k)

remainder-⊞ : (g a b : List Bool) → length a ≡ length b → remainder g (a ⊞ b) ≡ remainder g a ⊞ remainder g b
unfolding none remainder
remainder-⊞ g a b h =
    let o : List Bool = none (length g) in
    ap (R g) (ap (λ (t : List Bool). (a ⊞ b) ++ t) (sym (⊞-none o (length g) (length_none (length g)))) ∙ sym (append_⊞ a o b o h))
    ∙ R-⊞ g (a ++ o) (b ++ o) (length-append a o ∙ ap (λ (k : ℕ). k + length o) h ∙ sym (length-append b o))

remainder-zeros : (g : List Bool) (t : ℕ) (p : List Bool) → remainder g (none t ++ p) ≡ remainder g p
unfolding none remainder
remainder-zeros g t p = ap (rest g (none (length g))) (append_assoc (none t) p (none (length g))) ∙ R-zeros g t (p ++ none (length g))

pub check-constant : (r : ℕ) (p : List Bool) → remainder (poly r) (leads r ++ p) ≡ remainder (poly r) p ⊞ constant r (length p)
check-constant r p =
    let l : List Bool = leads r in
    let k : ℕ = length p in
    let lk : length l ≡ r = length-leads r in
    let parts : l ++ p ≡ (none r ++ p) ⊞ (l ++ none k) = sym (append_⊞ (none r) p l (none k) (length_none r ∙ sym lk) ∙ ap₂ {C = List Bool} ◌++◌ (⊞-comm (none r) l ∙ ⊞-none l r lk) (⊞-none p k refl)) in
    let same : length (none r ++ p) ≡ length (l ++ none k) = simp (length-append, length_none, lk) in
    ap (remainder (poly r)) parts ∙ remainder-⊞ (poly r) (none r ++ p) (l ++ none k) same ∙ ap (λ (t : List Bool). t ⊞ constant r k) (remainder-zeros (poly r) r p)
