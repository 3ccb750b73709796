-- What the model finds over bits, whatever bits t the unknowns have. That it does so is proved in proofs/Decoded.
--     picked fs v               the bits at the flagged places
--     kept_open ks o u v         the positions v, the last of u, keep the rules where they are open (o)
--     residuals ks o u v        what the closed frozen positions among v miss their rules by
--     Decoded                   what holds of the vector u, the block x and the equations es
use Rattle.std.specs.Prelude.{◌≡◌, ℕ, ◌^◌, Bool, true, false, ◌&&◌, not, List, [], ◌∷◌, ◌++◌, length, replicate}
use Rattle.bits.specs.Vectors.{◌⊕◌, tab, odd}
use Rattle.meaning.specs.Limits.{leads}
use Rattle.meaning.specs.Transform.{polar}
use Rattle.meaning.specs.Sheet.{Rule, free, frozen}
use Rattle.meaning.specs.Check.{free_bits, rest, poly}
use Rattle.meaning.specs.Codewords.{agrees}
use Rattle.meaning.specs.Open.{open_free, open_all, unknowns}

-- the bits at the flagged places
abbrev pub picked : List Bool → List Bool → List Bool
picked [] v = []
picked (f ∷ fs) [] = []
picked (true ∷ fs) (b ∷ v) = b ∷ picked fs v
picked (false ∷ fs) (b ∷ v) = picked fs v

-- `keepsRules`, of the open positions
abbrev pub kept_open : List Rule → List Bool → List Bool → List Bool → Bool
kept_open [] o u v = true
kept_open (k ∷ ks) [] u v = true
kept_open (k ∷ ks) (x ∷ o) u [] = true
kept_open (free ∷ ks) (x ∷ o) u (b ∷ v) = kept_open ks o u v
kept_open (frozen c m ∷ ks) (true ∷ o) u (b ∷ v) = not (b ⊕ (c ⊕ odd m u)) && kept_open ks o u v
kept_open (frozen c m ∷ ks) (false ∷ o) u (b ∷ v) = kept_open ks o u v

-- for each closed frozen position, its bit plus what its rule asks for
abbrev pub residuals : List Rule → List Bool → List Bool → List Bool → List Bool
residuals [] o u v = []
residuals (k ∷ ks) [] u v = []
residuals (k ∷ ks) (x ∷ o) u [] = []
residuals (free ∷ ks) (x ∷ o) u (b ∷ v) = residuals ks o u v
residuals (frozen c m ∷ ks) (true ∷ o) u (b ∷ v) = residuals ks o u v
residuals (frozen c m ∷ ks) (false ∷ o) u (b ∷ v) = (b ⊕ (c ⊕ odd m u)) ∷ residuals ks o u v

pub record Decoded (rule : ℕ → Rule) (n r : ℕ) (w : List ℕ) (t : ℕ → Bool) (u x es : List Bool) : Type 0 where
  -- a bit for each position, and the block is their transform, which agrees with the word
  pub size : length u ≡ 2 ^ n
  pub block : polar n u ≡ x
  pub agree : agrees w x ≡ true
  -- the open free positions hold the unknowns, in order
  pub given : picked (open_free (tab (2 ^ n) rule) (open_all n w)) u ≡ tab (unknowns n (tab (2 ^ n) rule) w) t
  -- the open frozen positions keep their rules
  pub kept : kept_open (tab (2 ^ n) rule) (open_all n w) u u ≡ true
  -- the equations: the residuals of the closed frozen positions, then the check's remainder
  pub left : es ≡ residuals (tab (2 ^ n) rule) (open_all n w) u u ++ rest (poly r) (replicate r false) (leads r ++ free_bits (tab (2 ^ n) rule) u)
