-- What a loop keeps that fills a list place by place.
--     Filling f m l i, and its steps     the first i of m places of l hold f 0, f 1, ..: no place, one place more, all places
use mathlib.Core.Path.{◌≡◌, refl, sym, ap, ◌∙◌}
use Prim.Native.Nat.{ℕ, ◌+◌, ◌≤◌, ◌<◌}
use native.Mathlib.Omega.{arith}
use native.Mathlib.Numerals.{add-one}
use mathlib.Core.List.{List, [], ◌∷◌, ◌++◌}
use lib.ListN.{length, take, set, length-set}
use lib.Seq.{take-suc-set, take_all}
use Rattle.bits.specs.Vectors.{tab}
use Rattle.bits.proofs.Tests.{tab_snoc}

pub record Filling (f : ℕ → ℕ) (m : ℕ) (l : List ℕ) (i : ℕ) : Type 0 where
  pub some : i ≤ m
  pub size : length l ≡ m
  pub is : take i l ≡ tab i f

pub filling_none : (f : ℕ → ℕ) (l : List ℕ) → Filling f (length l) l 0
filling_none f l = record { some = omega arith; size = refl; is = refl }

module _ {f : ℕ → ℕ} {m : ℕ} {l : List ℕ} {i : ℕ} (p : Filling f m l i) where
  pub filling_next : (x : ℕ) → i < m → x ≡ f i → Filling f m (set l i x) (i + 1)
  filling_next x h e =
      let s = p.size in
      record {
        some = omega arith;
        size = length-set l i x ∙ p.size;
        is = rw (add-one i) (take-suc-set l i x (omega arith)) ∙ ap {B = List ℕ} (λ t. t ++ (x ∷ [])) p.is ∙ ap {B = List ℕ} (λ y. tab i f ++ (y ∷ [])) e ∙ sym (tab_snoc i f);
      }

  pub filling_all : m ≤ i → l ≡ tab m f
  filling_all h =
      let s = p.some in
      let k = p.size in
      let e : i ≡ m = omega arith in
      sym (take_all i l (omega arith)) ∙ p.is ∙ ap (λ (j : ℕ). tab j f) e
