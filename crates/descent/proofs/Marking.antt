-- The marks of a word's symbols.
--     mark_gone, mark_known      one symbol
--     mark_turn, mark_end        the loop
--     other_default              a symbol that is there, by either default
use mathlib.Core.Path.{◌≡◌, refl, ap, ◌∙◌}
use mathlib.Core.Logic.{◌⊎◌, inl, inr}
use Prim.Native.Nat.{ℕ, zero, suc, ◌+◌, ◌≤◌, ◌<◌}
use native.Mathlib.Omega.{arith}
use native.Mathlib.Nat.{eq-or-lt_of_le}
use mathlib.Core.List.{List, [], ◌∷◌}
use lib.ListN.{length, set, get_or}
use lib.Seq.{get_or-set_same, get_or-set_other}
use Rattle.descent.specs.declared.leaf.Mark.{Mark}
use Rattle.descent.specs.declared.leaf.Mark.TheVariants.{Erased}
use Rattle.descent.specs.Block.{mark_at, mark_of, Marked}

pub mark_turn : {j s : ℕ} {a : Mark} {word : List ℕ} {m : List Mark} → s ≡ get_or word j 2 → a ≡ mark_of s → j < length m → Marked j word m → Marked (j + 1) word (set m j a)
mark_turn {j} {s} {a} {word} {m} e q l u = record { slot = λ i p. let h : i ≤ j = omega arith in go i (eq-or-lt_of_le h) }
  where
    go : (i : ℕ) → (i ≡ j) ⊎ (i < j) → mark_at (set m j a) i ≡ mark_of (get_or word i 2)
    go i (inl z) = rw z (get_or-set_same m j a Erased l ∙ q ∙ ap mark_of e)
    go i (inr p) = get_or-set_other m j i a Erased (λ z. omega arith) ∙ u.slot i p

pub mark_end : {j k : ℕ} {word : List ℕ} {m : List Mark} → Marked j word m → k ≤ j → Marked k word m
mark_end u h = record { slot = λ i p. u.slot i (omega arith) }

pub other_default : (l : List ℕ) (j : ℕ) → j < length l → get_or l j 0 ≡ get_or l j 2
other_default [] j p = absurd (omega arith)
other_default (a ∷ l) zero p = refl
other_default (a ∷ l) (suc j) p = other_default l j (omega arith)
