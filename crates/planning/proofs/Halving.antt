-- How far the candidates fall where erased symbols are filled in: each symbol halves them at most, as long as any is left.
--     split         the candidates of a word with an erased symbol are those with 0 in its place and those with 1
--     halved        by demand 3 these are equally many, or there are none of one kind
--     halved_all    so k symbols leave a 2 ^ k-th or more
use mathlib.Core.Path.{◌≡◌, refl, sym, ap, ap₂, ◌∙◌}
use mathlib.Core.Logic.{◌⊎◌, inl, inr, ⊎_elim}
use Prim.Native.Nat.{ℕ, zero, suc, ◌+◌, ◌*◌, ◌^◌, ◌≤◌, ◌<◌}
use native.Mathlib.Omega.{arith}
use native.Mathlib.Nat.{mul_assoc}
use mathlib.Core.Bool.{Bool, true, false, ◌&&◌, not, false≢true}
use mathlib.Core.List.{List, [], ◌∷◌, ◌++◌, map, append_assoc, Memᴰ}
use lib.ListN.{length, length-append}
use lib.Dec.{eqb}
use borrow.Author.Tests.{eq-eqb, ne_eqb}
use Rattle.bits.specs.Vectors.{bit, count}
use Rattle.bits.proofs.Tests.{and_r, and_l, and_i, length-filter, le_or_lt}
use Rattle.meaning.specs.Sheet.{Rule}
use Rattle.meaning.specs.Codewords.{erased, fits, agrees, codewords, candidates}
use Rattle.meaning.proofs.Candidates.{codeword_iff}
use Rattle.meaning.proofs.Coset.{same_number}
use Rattle.meaning.proofs.Demands.{head_in}
use Rattle.planning.specs.Filled.{filled, filled_in, fetched}
use Rattle.planning.proofs.Words.{filled_is, filled_self}
use Rattle.planning.proofs.Among.{fewer}

-- ---- one symbol, behind `pre` and before `t`

bit-split : (pre t : List ℕ) (x : List Bool) → length pre < length x → bit (agrees (pre ++ 2 ∷ t) x) ≡ bit (agrees (pre ++ 0 ∷ t) x) + bit (agrees (pre ++ 1 ∷ t) x)
bit-split pre t [] h = absurd (omega arith)
bit-split [] t (true ∷ x) h = omega arith
bit-split [] t (false ∷ x) h = omega arith
bit-split (a ∷ pre) t (c ∷ x) h = go (fits a c) (bit-split pre t x (omega arith))
  where
    go : (b : Bool) → bit (agrees (pre ++ 2 ∷ t) x) ≡ bit (agrees (pre ++ 0 ∷ t) x) + bit (agrees (pre ++ 1 ∷ t) x)
        → bit (b && agrees (pre ++ 2 ∷ t) x) ≡ bit (b && agrees (pre ++ 0 ∷ t) x) + bit (b && agrees (pre ++ 1 ∷ t) x)
    go true e = e
    go false e = refl

count-split : (pre t : List ℕ) (l : List (List Bool)) → ((x : List Bool) → Memᴰ x l → length pre < length x)
    → count (agrees (pre ++ 2 ∷ t)) l ≡ count (agrees (pre ++ 0 ∷ t)) l + count (agrees (pre ++ 1 ∷ t)) l
count-split pre t [] h = refl
count-split pre t (x ∷ l) h = omega (arith, bit-split pre t x (h x (Memᴰ.head refl)), count-split pre t l (λ y m. h y (Memᴰ.tail m)))

-- all but one symbol is the same: erased in the same places
same-erased : (pre t : List ℕ) → map erased (pre ++ 0 ∷ t) ≡ map erased (pre ++ 1 ∷ t)
same-erased [] t = refl
same-erased (a ∷ pre) t = ap {B = List Bool} (λ l. erased a ∷ l) (same-erased pre t)

module _ (n : ℕ) (ks : List Rule) (r : ℕ) where
  -- how many candidates
  abbrev number : List ℕ → ℕ
  number w = length (candidates n ks r w)

  module _ (pre t : List ℕ) (h : length pre < 2 ^ n) where
    split : number (pre ++ 2 ∷ t) ≡ number (pre ++ 0 ∷ t) + number (pre ++ 1 ∷ t)
    unfolding candidates
    split =
        length-filter (agrees (pre ++ 2 ∷ t)) (codewords n ks r) ∙ count-split pre t (codewords n ks r) (λ x m. omega (arith, ((codeword_iff n ks r x).0 m).0))
        ∙ sym (ap₂ ◌+◌ (length-filter (agrees (pre ++ 0 ∷ t)) (codewords n ks r)) (length-filter (agrees (pre ++ 1 ∷ t)) (codewords n ks r)))

    -- neither kind is missing: demand 3
    equally : 0 < number (pre ++ 0 ∷ t) → 0 < number (pre ++ 1 ∷ t) → number (pre ++ 0 ∷ t) ≡ number (pre ++ 1 ∷ t)
    equally p q =
        let (x, mx) = head_in (candidates n ks r (pre ++ 0 ∷ t)) p in
        let (y, my) = head_in (candidates n ks r (pre ++ 1 ∷ t)) q in
        same_number n ks r (pre ++ 0 ∷ t) (pre ++ 1 ∷ t) (same-erased pre t) x y mx my

    halved : (b : ℕ) → b < 2 → 0 < number (pre ++ b ∷ t) → number (pre ++ 2 ∷ t) ≤ 2 * number (pre ++ b ∷ t)
    halved zero l p = ⊎_elim (λ (q : number (pre ++ 1 ∷ t) ≤ 0). omega (arith, split)) (λ q. omega (arith, split, equally p q)) (le_or_lt (number (pre ++ 1 ∷ t)) 0)
    halved (suc zero) l p = ⊎_elim (λ (q : number (pre ++ 0 ∷ t) ≤ 0). omega (arith, split)) (λ q. omega (arith, split, equally q p)) (le_or_lt (number (pre ++ 0 ∷ t)) 0)
    halved (suc (suc b)) l p = absurd (omega arith)

  -- ---- all symbols, from the first on

  filled-behind : (pre w w' : List ℕ) → filled_in w w' ≡ true → filled_in (pre ++ w) (pre ++ w') ≡ true
  filled-behind [] w w' f = f
  filled-behind (a ∷ pre) w w' f = and_i _ _ (filled_self a) (filled-behind pre w w' f)

  twice : (x y z k : ℕ) → x ≤ 2 * y → y ≤ z * 2 ^ k → x ≤ z * 2 ^ suc k
  twice x y z k p q =
      let s : 2 ^ suc k ≡ 2 ^ k * 2 = omega arith in
      let e : z * 2 ^ suc k ≡ z * 2 ^ k * 2 = ap (λ (t : ℕ). z * t) s ∙ sym (mul_assoc z (2 ^ k) 2) in
      omega arith

  halved_from : (pre w w' : List ℕ) → filled_in w w' ≡ true → length (pre ++ w) ≡ 2 ^ n → 0 < number (pre ++ w') → number (pre ++ w) ≤ number (pre ++ w') * 2 ^ fetched w w'
  halved_from pre [] [] f l h = omega arith
  halved_from pre [] (b ∷ w') f l h = absurd (false≢true f)
  halved_from pre (a ∷ w) [] f l h = absurd (false≢true f)
  halved_from pre (a ∷ w) (b ∷ w') f l h =
      let e : (v : List ℕ) → pre ++ (b ∷ []) ++ v ≡ pre ++ b ∷ v = append_assoc pre (b ∷ []) in
      let long : length (pre ++ (b ∷ []) ++ w) ≡ 2 ^ n = ap length (e w) ∙ length-append pre (b ∷ w) ∙ sym (length-append pre (a ∷ w)) ∙ l in
      go (filled_is a b (and_l (filled a b) _ f)) (rw (e w, e w') at (halved_from (pre ++ (b ∷ [])) w w' (and_r (filled a b) _ f) long (rw (e w') h)))
    where
      some : 0 < number (pre ++ b ∷ w)
      some = omega (arith, h, fewer n ks r (pre ++ b ∷ w) (pre ++ b ∷ w') (filled-behind pre (b ∷ w) (b ∷ w') (and_i _ _ (filled_self b) (and_r (filled a b) _ f))))

      go : (a ≡ b) ⊎ ((a ≡ 2) × (b < 2)) → number (pre ++ b ∷ w) ≤ number (pre ++ b ∷ w') * 2 ^ fetched w w' → number (pre ++ a ∷ w) ≤ number (pre ++ b ∷ w') * 2 ^ (bit (not (eqb a b)) + fetched w w')
      go (inl e) k = let z : 0 + fetched w w' ≡ fetched w w' = omega arith in rw (e, eq-eqb b b refl, z) k
      go (inr (e, lb)) k =
          let z : 1 + fetched w w' ≡ suc (fetched w w') = omega arith in
          let half : number (pre ++ a ∷ w) ≤ 2 * number (pre ++ b ∷ w) = rw e (halved pre w (omega (arith, l, length-append pre (a ∷ w))) b lb some) in
          rw (ne_eqb a b (λ q. omega arith), z) (twice _ _ _ (fetched w w') half k)

  pub halved_all : (w w' : List ℕ) → filled_in w w' ≡ true → length w ≡ 2 ^ n → 0 < number w' → number w ≤ number w' * 2 ^ fetched w w'
  halved_all w w' f l h = halved_from [] w w' f l h
