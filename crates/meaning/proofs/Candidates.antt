-- Codewords and candidates: each list rises in the order of u, has just the members that it should, and is the only such list.
--     codewords_rise, codeword_iff        all codewords
--     candidates_rise, candidate_iff      the agreeing ones
--     candidates_unique                   any list that rises and has just the agreeing codewords is the list
--     carrying_rise, carrying_iff         those with a payload
--     passes, candidates-filter           the candidates as the x of the u that pass
use mathlib.Core.Path.{◌≡◌, refl, sym, ap, ◌∙◌}
use Prim.Native.Nat.{ℕ, ◌^◌}
use mathlib.Core.Logic.{◌↔◌}
use mathlib.Core.Bool.{Bool, true, ◌&&◌}
use mathlib.Core.List.Memᴰ
use mathlib.Core.List.{List, [], ◌∷◌, map, Memᴰ}
use lib.ListN.{length, length-map}
use Rattle.bits.specs.Vectors.{all_bits, filter, count, same, Below, Rises, Before}
use Rattle.bits.proofs.Tests.{and_l, and_r, and_i, mem_filter, filter_mem, length-filter, filter_map, filter-filter}
use Rattle.bits.proofs.Rising.{all-bits, bits-length, before_irr, before_trans, rises_bits, rises_filter, rises_unique}
use Rattle.meaning.specs.Transform.{polar}
use Rattle.meaning.specs.Sheet.{Rule}
use Rattle.meaning.specs.Check.{keeps}
use Rattle.meaning.specs.Codewords.{agrees, codewords, candidates, payload_of, carrying, Codeword, Agreeing}
use Rattle.meaning.proofs.Polar.{length-polar, polar-polar}

-- x comes before y: its u does
abbrev pub Earlier : ℕ → List Bool → List Bool → Type 0
Earlier n x y = Before (polar n x) (polar n y)

rises_polar : (n : ℕ) (l : List (List Bool)) → ((u : List Bool) → Memᴰ u l → length u ≡ 2 ^ n) → Rises Before l → Rises (Earlier n) (map (polar n) l)
rises_polar n [] h r = tt
rises_polar n (u ∷ l) h r = (below l (λ v m. h v (Memᴰ.tail m)) r.0, rises_polar n l (λ v m. h v (Memᴰ.tail m)) r.1)
  where
    below : (m : List (List Bool)) → ((v : List Bool) → Memᴰ v m → length v ≡ 2 ^ n) → Below Before u m → Below (Earlier n) (polar n u) (map (polar n) m)
    below [] k b = tt
    below (v ∷ m) k b = (rw (polar-polar n u (h u (Memᴰ.head refl)), polar-polar n v (k v (Memᴰ.head refl))) b.0, below m (λ t q. k t (Memᴰ.tail q)) b.1)

-- two lists of codewords that rise and have the same members are equal
pub earlier_unique : (n : ℕ) (l m : List (List Bool)) → Rises (Earlier n) l → Rises (Earlier n) m → ((x : List Bool) → Memᴰ x l ↔ Memᴰ x m) → l ≡ m
earlier_unique n l m p q h =
    rises_unique (Earlier n) (λ x. before_irr (polar n x)) (λ x y z. before_trans (polar n x) (polar n y) (polar n z)) l m p q (λ x. (h x).0) (λ x. (h x).1)

-- ---- all codewords

module _ (n : ℕ) (ks : List Rule) (r : ℕ) where
  pub codewords_rise : Rises (Earlier n) (codewords n ks r)
  unfolding codewords
  codewords_rise =
      rises_polar n (filter (keeps ks r) (all_bits (2 ^ n))) (λ u m. bits-length (2 ^ n) u (filter_mem (keeps ks r) (all_bits (2 ^ n)) m).0)
      (rises_filter Before (keeps ks r) (all_bits (2 ^ n)) (rises_bits (2 ^ n)))

  pub codeword_iff : (x : List Bool) → Memᴰ x (codewords n ks r) ↔ Codeword n ks r x
  unfolding codewords
  codeword_iff x = (
    λ m. let (u, k, e) = Memᴰ.of_map (polar n) (filter (keeps ks r) (all_bits (2 ^ n))) m in
        let f = filter_mem (keeps ks r) (all_bits (2 ^ n)) k in
        let lu = bits-length (2 ^ n) u f.0 in
        (sym (ap length e) ∙ length-polar n u lu, rw (← e, polar-polar n u lu) f.1),
    λ (l, k). Memᴰ.cast (sym (polar-polar n x l)) (Memᴰ.map (polar n) (mem_filter (keeps ks r) (all-bits (2 ^ n) (polar n x) (length-polar n x l)) k)),
  )

  -- ---- the agreeing ones

  module _ (w : List ℕ) where
    pub candidates_rise : Rises (Earlier n) (candidates n ks r w)
    unfolding candidates
    candidates_rise = rises_filter (Earlier n) (agrees w) (codewords n ks r) codewords_rise

    pub candidate_iff : (x : List Bool) → Memᴰ x (candidates n ks r w) ↔ Agreeing n ks r w x
    unfolding candidates
    candidate_iff x = (
      λ m. let f = filter_mem (agrees w) (codewords n ks r) m in ((codeword_iff x).0 f.0, f.1),
      λ (k, a). mem_filter (agrees w) ((codeword_iff x).1 k) a,
    )

    pub candidates_unique : (l : List (List Bool)) → Rises (Earlier n) l → ((x : List Bool) → Memᴰ x l ↔ Agreeing n ks r w x) → l ≡ candidates n ks r w
    candidates_unique l s h =
        earlier_unique n l (candidates n ks r w) s candidates_rise (λ x. (λ m. (candidate_iff x).1 ((h x).0 m), λ m. (h x).1 ((candidate_iff x).0 m)))

  -- ---- those with payload p

  module _ (p : List Bool) where
    pub carrying_rise : Rises (Earlier n) (carrying n ks r p)
    unfolding carrying
    carrying_rise = rises_filter (Earlier n) (λ (x : List Bool). same p (payload_of n ks r x)) (codewords n ks r) codewords_rise

    pub carrying_iff : (x : List Bool) → Memᴰ x (carrying n ks r p) ↔ (Codeword n ks r x × (same p (payload_of n ks r x) ≡ true))
    unfolding carrying
    carrying_iff x = (
      λ m. let f = filter_mem (λ (x : List Bool). same p (payload_of n ks r x)) (codewords n ks r) m in ((codeword_iff x).0 f.0, f.1),
      λ (k, a). mem_filter (λ (x : List Bool). same p (payload_of n ks r x)) ((codeword_iff x).1 k) a,
    )

-- ---- the candidates by their u

-- u keeps the rules and its codeword agrees
unfoldable pub passes : ℕ → List Rule → ℕ → List ℕ → List Bool → Bool
passes n ks r w u = keeps ks r u && agrees w (polar n u)

module _ (n : ℕ) (ks : List Rule) (r : ℕ) (w : List ℕ) where
  pub candidates-filter : candidates n ks r w ≡ map (polar n) (filter (passes n ks r w) (all_bits (2 ^ n)))
  unfolding candidates codewords passes
  candidates-filter = filter_map (polar n) (agrees w) (filter (keeps ks r) (all_bits (2 ^ n))) ∙ ap (map (polar n)) (filter-filter (λ (u : List Bool). agrees w (polar n u)) (keeps ks r) (all_bits (2 ^ n)))

  pub length-candidates : length (candidates n ks r w) ≡ count (passes n ks r w) (all_bits (2 ^ n))
  length-candidates = rw (candidates-filter, length-map, length-filter)

  pub candidate : (x : List Bool) → Memᴰ x (candidates n ks r w) → (u : List Bool) × (length u ≡ 2 ^ n) × (passes n ks r w u ≡ true) × (polar n u ≡ x)
  unfolding passes
  candidate x m =
      let ((l, k), a) = (candidate_iff n ks r w x).0 m in
      (polar n x, length-polar n x l, and_i _ _ k (rw (polar-polar n x l) a), polar-polar n x l)

  pub is_candidate : (u : List Bool) → length u ≡ 2 ^ n → passes n ks r w u ≡ true → Memᴰ (polar n u) (candidates n ks r w)
  unfolding passes
  is_candidate u l h =
      (candidate_iff n ks r w (polar n u)).1 ((length-polar n u l, rw (polar-polar n u l) (and_l (keeps ks r u) _ h)), and_r (keeps ks r u) _ h)
