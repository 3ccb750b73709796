-- Texts written to a buffer one after the other.
use mathlib.Core.Path.{◌≡◌, ap, ◌∙◌}
use Prim.Native.Nat.{ℕ}
use native.Mathlib.Omega.{arith}
use mathlib.Core.List.{List, ◌++◌, append_assoc}
use lib.ListN.{length, take, length-append}
use Rattle.show.specs.Text.{Written}

-- ---- one after the other

module _ {a b : List ℕ} {at r : ℕ} {t : List ℕ} where
  -- the same text, said another way
  pub spelt : {u : List ℕ} → Written a b at r t → t ≡ u → Written a b at r u
  spelt w e = rw e at w

infixl 30 ◌then◌
pub ◌then◌ : {a b c : List ℕ} {at r q : ℕ} {t u : List ℕ} → Written a b at r t → Written b c r q u → Written a c at q (t ++ u)
◌then◌ {a = a} {at = at} {t = t} {u = u} x y = record {
  ends = omega (arith, length-append t u, x.ends, y.ends);
  long = y.long ∙ x.long;
  text = y.text ∙ ap (λ (l : List ℕ). l ++ u) x.text ∙ append_assoc (take at a) t u;
}

-- from the start of a buffer
pub within : {a b t : List ℕ} {r : ℕ} → Written a b 0 r t → (r ≡ length t) × (take r b ≡ t)
within w = (omega (arith, w.ends), w.text)
