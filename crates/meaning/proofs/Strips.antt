-- The strips of a list of candidates.
--     candidate_long     a candidate has N places
--     strips-long        the strips have 3N
--     strips-whole, strips-first, strips-last     the strips, the first candidate and the last, off the bytes that start with them
use mathlib.Core.Path.{◌≡◌, refl, ap, ◌∙◌}
use Prim.Native.Nat.{ℕ, ◌*◌, ◌^◌, ◌<◌}
use native.Mathlib.Omega.{arith}
use mathlib.Core.Bool.{Bool}
use mathlib.Core.List.{List, [], ◌∷◌, ◌++◌, append_assoc, Memᴰ}
use lib.ListN.{length, take, drop, length-append, length-map}
use lib.Seq.{take_at, drop_at}
use Rattle.bits.specs.Vectors.{bit}
use Rattle.bits.proofs.Tests.{length-tab}
use Rattle.meaning.specs.Sheet.{Rule}
use Rattle.meaning.specs.Codewords.{candidates}
use Rattle.meaning.specs.Strips.{settled_at, settled, first, last, strips}
use Rattle.meaning.proofs.Candidates.{candidate_iff}

pub candidate_long : (n : ℕ) (ks : List Rule) (r : ℕ) (w : List ℕ) (x : List Bool) → Memᴰ x (candidates n ks r w) → length x ≡ 2 ^ n
candidate_long n ks r w x m = ((candidate_iff n ks r w x).0 m).0.0

first-long : (k : ℕ) (cs : List (List Bool)) → 0 < length cs → ((x : List Bool) → Memᴰ x cs → length x ≡ k) → length (first cs) ≡ k
first-long k [] h f = absurd (omega arith)
first-long k (x ∷ cs) h f = length-map x bit ∙ f x (Memᴰ.head refl)

last-long : (k : ℕ) (cs : List (List Bool)) → 0 < length cs → ((x : List Bool) → Memᴰ x cs → length x ≡ k) → length (last cs) ≡ k
last-long k [] h f = absurd (omega arith)
last-long k (x ∷ []) h f = length-map x bit ∙ f x (Memᴰ.head refl)
last-long k (x ∷ y ∷ cs) h f = last-long k (y ∷ cs) (omega arith) (λ z m. f z (Memᴰ.tail m))

module _ (n : ℕ) (cs : List (List Bool)) (h : 0 < length cs) (f : (x : List Bool) → Memᴰ x cs → length x ≡ 2 ^ n) where
  abbrev t : List ℕ
  t = settled (2 ^ n) cs

  settled-long : length t ≡ 2 ^ n
  unfolding settled
  settled-long = length-tab (2 ^ n) (settled_at cs)

  two-long : length (t ++ first cs) ≡ 2 * 2 ^ n
  two-long = length-append t (first cs) ∙ omega (arith, settled-long, first-long (2 ^ n) cs h f)

  pub strips-long : length (strips n cs) ≡ 3 * 2 ^ n
  unfolding strips
  strips-long = length-append (t ++ first cs) (last cs) ∙ omega (arith, two-long, last-long (2 ^ n) cs h f)

  -- any bytes behind them
  module _ (b : List ℕ) where
    pub strips-whole : take (3 * 2 ^ n) (strips n cs ++ b) ≡ strips n cs
    strips-whole = take_at (strips n cs) b (3 * 2 ^ n) strips-long

    pub strips-first : take (2 ^ n) (drop (2 ^ n) (strips n cs ++ b)) ≡ first cs
    unfolding strips
    strips-first =
        ap (λ (l : List ℕ). take (2 ^ n) (drop (2 ^ n) l)) (append_assoc (t ++ first cs) (last cs) b ∙ append_assoc t (first cs) (last cs ++ b))
        ∙ ap (take (2 ^ n)) (drop_at t (first cs ++ (last cs ++ b)) (2 ^ n) settled-long) ∙ take_at (first cs) (last cs ++ b) (2 ^ n) (first-long (2 ^ n) cs h f)

    pub strips-last : take (2 ^ n) (drop (2 * 2 ^ n) (strips n cs ++ b)) ≡ last cs
    unfolding strips
    strips-last =
        ap (λ (l : List ℕ). take (2 ^ n) (drop (2 * 2 ^ n) l)) (append_assoc (t ++ first cs) (last cs) b)
        ∙ ap (take (2 ^ n)) (drop_at (t ++ first cs) (last cs ++ b) (2 * 2 ^ n) two-long) ∙ take_at (last cs) b (2 ^ n) (last-long (2 ^ n) cs h f)
