-- The sum of a row's unknowns: `dot`, and the value of a row.
--     dot-⊻, value_hom           of a sum of rows: a row's value is linear in the row
--     dot_append, dot_ext        of two assignments in turn; by the unknowns that the row has
--     dot-none, dot-no-lead, dot-lead     of a row with no coefficient, and by its lead
--     dot-zeros, dot-unit        all unknowns 0, and one unknown alone
use mathlib.Core.Path.{◌≡◌, refl, sym, ap, ap₂, ◌∙◌}
use Prim.Native.Nat.{ℕ, zero, suc, ◌+◌, ◌*◌, ◌≤◌, ◌<◌}
use native.Mathlib.Omega.{arith}
use native.Mathlib.Nat.{suc_inj, zero-add, add-zero, suc-add, add-suc}
use mathlib.Core.Bool.{Bool, true, false, ◌&&◌}
use mathlib.Core.List.{List, [], ◌∷◌, ◌++◌}
use lib.ListN.{length, get_or, take, drop, replicate, length-append}
use lib.Seq.{length-take-le, split_at}
use Rattle.bits.specs.Vectors.{◌⊕◌}
use Rattle.bits.specs.Rows.{Row, ◌⊻◌, has}
use Rattle.bits.proofs.Xor.{⊕-false, ⊕-assoc, ⊕-swap, and-⊕}
use Rattle.bits.proofs.Tests.{and-false, and-true}
use Rattle.bits.proofs.RowXor.{has-⊻}
use Rattle.gf2.specs.Solve.{lead}
use Rattle.gf2.specs.System.{Hom, dot, value, unit}
use Rattle.gf2.proofs.Leads.{lead-holds, lead_above}

dot-⊻ : (b : ℕ) (x y : Row) (z : List Bool) → dot b (x ⊻ y) z ≡ dot b x z ⊕ dot b y z
unfolding dot
dot-⊻ b x y [] = refl
dot-⊻ b x y (t ∷ z) =
    ap₂ ◌⊕◌ (ap (λ (u : Bool). u && t) (has-⊻ b x y) ∙ and-⊕ (has b x) (has b y) t) (dot-⊻ (suc b) x y z)
    ∙ ⊕-swap (has b x && t) (has b y && t) (dot (suc b) x z) (dot (suc b) y z)

-- a row's value is linear in the row
pub value_hom : (κ : Row → Bool) → Hom κ → (z : List Bool) → Hom (value κ z)
value_hom κ hom z x y = ap₂ ◌⊕◌ (dot-⊻ 0 x y z) (hom x y) ∙ ⊕-swap (dot 0 x z) (dot 0 y z) (κ x) (κ y)

pub dot_append : (b : ℕ) (x : Row) (u v : List Bool) → dot b x (u ++ v) ≡ dot b x u ⊕ dot (b + length u) x v
unfolding dot
dot_append b x [] v = ap (λ (n : ℕ). dot n x v) (sym (add-zero b))
dot_append b x (t ∷ u) v =
    let n : suc b + length u ≡ b + suc (length u) = suc-add b (length u) ∙ sym (add-suc b (length u)) in
    ap (λ (w : Bool). (has b x && t) ⊕ w) (dot_append (suc b) x u v ∙ ap (λ (n : ℕ). dot (suc b) x u ⊕ dot n x v) n)
    ∙ sym (⊕-assoc (has b x && t) (dot (suc b) x u) (dot (b + suc (length u)) x v))

-- by the unknowns that the row has
pub dot_ext : (b : ℕ) (x : Row) (u v : List Bool) → length u ≡ length v
    → ((k : ℕ) → k < length u → has (b + k) x ≡ true → get_or u k false ≡ get_or v k false) → dot b x u ≡ dot b x v
unfolding dot
dot_ext b x [] [] n h = refl
dot_ext b x [] (t ∷ v) n h = absurd (omega arith)
dot_ext b x (s ∷ u) [] n h = absurd (omega arith)
dot_ext b x (s ∷ u) (t ∷ v) n h =
    ap₂ ◌⊕◌ (go (has b x) (λ q. h 0 (omega arith) (ap (λ (k : ℕ). has k x) (add-zero b) ∙ q)))
    (dot_ext (suc b) x u v (suc_inj n) (λ k l q. h (suc k) (omega arith) (ap (λ (m : ℕ). has m x) (add-suc b k ∙ sym (suc-add b k)) ∙ q)))
  where
    go : (a : Bool) → (a ≡ true → s ≡ t) → a && s ≡ a && t
    go true f = f refl
    go false f = refl

-- a row with no coefficient from b on
pub dot-none : (b : ℕ) (x : Row) (z : List Bool) → ((t : ℕ) → b ≤ t → t < b + length z → has t x ≡ false) → dot b x z ≡ false
unfolding dot
dot-none b x [] h = refl
dot-none b x (t ∷ z) h = ap₂ (λ (u v : Bool). (u && t) ⊕ v) (h b (omega arith) (omega arith)) (dot-none (suc b) x z (λ k p q. h k (omega arith) (omega arith)))

pub dot-no-lead : (c : ℕ) (x : Row) (z : List Bool) → length z ≤ 64 * c → lead c x ≡ 0 → dot 0 x z ≡ false
dot-no-lead c x z h q = dot-none 0 x z (λ t p l. lead_above c x t (omega arith) (omega arith))

-- with the pivot b: the unknowns before b, and b
pub dot-lead : (c : ℕ) (x : Row) (z : List Bool) (b : ℕ) → length z ≤ 64 * c → lead c x ≡ suc b → b < length z → dot 0 x z ≡ dot 0 x (take b z) ⊕ get_or z b false
unfolding dot
dot-lead c x z b h q l =
    let t = get_or z b false in
    let r = drop (suc b) z in
    let n : 0 + length (take b z) ≡ b = zero-add (length (take b z)) ∙ length-take-le b z (omega arith) in
    let m : length z ≡ b + suc (length r) =
    ap length (split_at z b false l) ∙ length-append (take b z) (t ∷ r) ∙ ap (λ (k : ℕ). k + suc (length r)) (length-take-le b z (omega arith)) in
    let d : dot (suc b) x r ≡ false = dot-none (suc b) x r (λ k p u. lead_above c x k (omega arith) (omega arith)) in
    ap (dot 0 x) (split_at z b false l) ∙ dot_append 0 x (take b z) (t ∷ r)
    ∙ ap (λ (k : ℕ). dot 0 x (take b z) ⊕ dot k x (t ∷ r)) n
    ∙ ap (λ (u : Bool). dot 0 x (take b z) ⊕ u) (ap₂ (λ (u v : Bool). (u && t) ⊕ v) (lead-holds c x b q) d ∙ ⊕-false t)

pub dot-zeros : (a : ℕ) (x : Row) (n : ℕ) → dot a x (replicate n false) ≡ false
unfolding dot
dot-zeros a x zero = refl
dot-zeros a x (suc n) = ap₂ ◌⊕◌ (and-false (has a x) false refl) (dot-zeros (suc a) x n)

pub dot-unit : (a : ℕ) (x : Row) (n k : ℕ) → k < n → dot a x (unit n k) ≡ has (a + k) x
unfolding dot
dot-unit a x zero k h = absurd (omega arith)
dot-unit a x (suc n) zero h = ap₂ ◌⊕◌ (and-true (has a x)) (dot-zeros (suc a) x n) ∙ ⊕-false (has a x) ∙ ap (λ (b : ℕ). has b x) (sym (add-zero a))
dot-unit a x (suc n) (suc k) h =
    ap₂ ◌⊕◌ (and-false (has a x) false refl) (dot-unit (suc a) x n k (omega arith)) ∙ ap (λ (b : ℕ). has b x) (suc-add a k ∙ sym (add-suc a k))
