-- The solutions of equations with distinct pivots, unknown by unknown: the free ones are at will, and each pivot follows.
--     owner-..                the equation whose pivot an unknown is
--     fill-.., keeps-..       the completion of an assignment, and what it keeps
--     solves-is               z solves the equations just where they are consistent and each pivot follows
--     is-completed, .., is-counted    what that makes of the solutions
use mathlib.Core.Path.{◌≡◌, refl, sym, ap, ap₂, ◌∙◌}
use Prim.Native.Nat.{ℕ, zero, suc, ◌+◌, ◌*◌, ◌-◌, ◌^◌, ◌≤◌, ◌<◌}
use native.Mathlib.Omega.{arith}
use native.Mathlib.Nat.{suc_inj, zero-add, add-zero}
use mathlib.Core.Bool.{Bool, true, false, ◌&&◌, ◌||◌, not, false≢true, true≢false}
use mathlib.Core.Option.{Option, none, some}
use mathlib.Core.List.{List, [], ◌∷◌, ◌++◌, append-nil}
use lib.ListN.{length, get_or, take, replicate, length-append}
use lib.Seq.{length-take-le, append_snoc}
use lib.Dec.{eqb}
use borrow.Author.Tests.{eq-eqb, ne_eqb, eqb-true}
use Rattle.bits.specs.Vectors.{◌⊕◌, bit, pick, count, all_bits, before}
use Rattle.bits.proofs.Xor.{⊕-self, ⊕-assoc, ⊕-comm, eq_⊕}
use Rattle.bits.proofs.Tests.{and_l, and_r, and_i, bool_ext, not-both, all-at, at_all, count_none}
use Rattle.bits.proofs.Rising.{count-suc, count_bits}
use Rattle.bits.specs.Rows.{Row, has, at}
use Rattle.gf2.specs.Solve.{lead}
use Rattle.gf2.specs.System.{led, Within, Distinct, dot, value, solves, consistent, owner, is_none, free, forced, fill, completed}
use Rattle.gf2.proofs.Sums.{dot-no-lead, dot-lead}
use Rattle.gf2.proofs.Tally.{tally, tally_ext, tally_first, tally_not, tally_or, tally_at, tally_false}

-- ---- the owner of a pivot

pub owner-some : (c : ℕ) (e : List Row) (b : ℕ) (x : Row) → owner c e b ≡ some x → (k : ℕ) × (k < length e) × (at e k ≡ x) × (lead c x ≡ suc b)
unfolding owner
owner-some c [] b x h = let z : ◌≡◌ {A = ℕ} 0 1 = cc in absurd (omega arith)
owner-some c (y ∷ e) b x h = go (eqb (lead c y) (suc b)) refl (owner-some c e b x) h
  where
    go : (s : Bool) → eqb (lead c y) (suc b) ≡ s → (owner c e b ≡ some x → (k : ℕ) × (k < length e) × (at e k ≡ x) × (lead c x ≡ suc b)) → pick s (some y) (owner c e b) ≡ some x
        → (k : ℕ) × (k < suc (length e)) × (at (y ∷ e) k ≡ x) × (lead c x ≡ suc b)
    go true q ih m = let p : y ≡ x = cc in (0, omega arith, p, rw p at (eqb-true (lead c y) (suc b) q))
    go false q ih m = let t = ih m in (suc t.0, (let l = t.1 in omega arith), t.2, t.3)

owner-none : (c : ℕ) (e : List Row) (b : ℕ) → owner c e b ≡ none → (k : ℕ) → k < length e → lead c (at e k) ≡ suc b → ⊥
unfolding owner
owner-none c [] b h k l m = omega arith
owner-none c (y ∷ e) b h k l m = go (eqb (lead c y) (suc b)) refl (owner-none c e b) h k l m
  where
    go : (s : Bool) → eqb (lead c y) (suc b) ≡ s → (owner c e b ≡ none → (k : ℕ) → k < length e → lead c (at e k) ≡ suc b → ⊥) → pick s (some y) (owner c e b) ≡ none
        → (k : ℕ) → k < suc (length e) → lead c (at (y ∷ e) k) ≡ suc b → ⊥
    go true q ih v k l m = let z : ◌≡◌ {A = ℕ} 0 1 = cc in omega arith
    go false q ih v zero l m = not-both (eq-eqb (lead c y) (suc b) m) q
    go false q ih v (suc k) l m = ih v k (omega arith) m

owner-is : (c : ℕ) (e : List Row) → Distinct c e → (k b : ℕ) → k < length e → lead c (at e k) ≡ suc b → owner c e b ≡ some (at e k)
owner-is c e D k b l m = go (owner c e b) refl
  where
    go : (o : Option Row) → owner c e b ≡ o → owner c e b ≡ some (at e k)
    go none q = absurd (owner-none c e b q k l m)
    go (some x) q =
        let (j, lj, a, u) = owner-some c e b x q in
        let w : j ≡ k = D j k b lj l (ap (lead c) a ∙ u) m in
        q ∙ ap some (sym a ∙ ap (at e) w)

-- ---- unknown by unknown

-- whether t may follow the unknowns acc
abbrev keep : (Row → Bool) → List Bool → Option Row → Bool → Bool
keep κ acc none t = true
keep κ acc (some x) t = not (t ⊕ (dot 0 x acc ⊕ κ x))

unfoldable keeps : ℕ → (Row → Bool) → List Row → List Bool → List Bool → Bool
keeps c κ e acc [] = true
keeps c κ e acc (t ∷ z) = keep κ acc (owner c e (length acc)) t && keeps c κ e (acc ++ (t ∷ [])) z

module _ (c : ℕ) (κ : Row → Bool) (e : List Row) where
  keeps-at : (acc z : List Bool) → keeps c κ e acc z ≡ true → (k : ℕ) → k < length z → keep κ (acc ++ take k z) (owner c e (length (acc ++ take k z))) (get_or z k false) ≡ true
  unfolding keeps
  keeps-at acc [] h k l = absurd (omega arith)
  keeps-at acc (t ∷ z) h zero l = rw (append-nil acc) (and_l (keep κ acc (owner c e (length acc)) t) (keeps c κ e (acc ++ (t ∷ [])) z) h)
  keeps-at acc (t ∷ z) h (suc k) l =
      rw (append_snoc acc t (take k z)) at (keeps-at (acc ++ (t ∷ [])) z (and_r (keep κ acc (owner c e (length acc)) t) (keeps c κ e (acc ++ (t ∷ [])) z) h) k (omega arith))

  at-keeps : (acc z : List Bool) → ((k : ℕ) → k < length z → keep κ (acc ++ take k z) (owner c e (length (acc ++ take k z))) (get_or z k false) ≡ true) → keeps c κ e acc z ≡ true
  unfolding keeps
  at-keeps acc [] h = refl
  at-keeps acc (t ∷ z) h =
      and_i (keep κ acc (owner c e (length acc)) t) (keeps c κ e (acc ++ (t ∷ [])) z)
      (rw (append-nil acc) at (h 0 (omega arith)))
      (at-keeps (acc ++ (t ∷ [])) z (λ k l. rw (append_snoc acc t (take k z)) (h (suc k) (omega arith))))

  -- ---- the completion

  pub length-fill : (acc z : List Bool) → length (fill c κ e acc z) ≡ length z
  unfolding fill
  length-fill acc [] = refl
  length-fill acc (t ∷ z) = ap suc (length-fill (acc ++ (forced κ acc (owner c e (length acc)) t ∷ [])) z)

  forced-keep : (acc : List Bool) (o : Option Row) (t : Bool) → keep κ acc o (forced κ acc o t) ≡ true
  forced-keep acc none t = refl
  forced-keep acc (some x) t = ap not (⊕-self (dot 0 x acc ⊕ κ x))

  keep-forced : (acc : List Bool) (o : Option Row) (t : Bool) → keep κ acc o t ≡ true → forced κ acc o t ≡ t
  keep-forced acc none t h = refl
  keep-forced acc (some x) t h = sym (eq_⊕ t (dot 0 x acc ⊕ κ x) h)

  fill-keeps : (acc z : List Bool) → keeps c κ e acc (fill c κ e acc z) ≡ true
  unfolding fill keeps
  fill-keeps acc [] = refl
  fill-keeps acc (t ∷ z) =
      let u = forced κ acc (owner c e (length acc)) t in
      and_i (keep κ acc (owner c e (length acc)) u) (keeps c κ e (acc ++ (u ∷ [])) (fill c κ e (acc ++ (u ∷ [])) z)) (forced-keep acc (owner c e (length acc)) t) (fill-keeps (acc ++ (u ∷ [])) z)

  keeps-fill : (acc z : List Bool) → keeps c κ e acc z ≡ true → fill c κ e acc z ≡ z
  unfolding fill keeps
  keeps-fill acc [] h = refl
  keeps-fill acc (t ∷ z) h =
      let p = keep-forced acc (owner c e (length acc)) t (and_l (keep κ acc (owner c e (length acc)) t) (keeps c κ e (acc ++ (t ∷ [])) z) h) in
      rw p (ap {B = List Bool} (λ r. t ∷ r) (keeps-fill (acc ++ (t ∷ [])) z (and_r (keep κ acc (owner c e (length acc)) t) (keeps c κ e (acc ++ (t ∷ [])) z) h)))

  -- only the free unknowns matter
  fill_ext : (acc u v : List Bool) → length u ≡ length v → ((k : ℕ) → owner c e (length acc + k) ≡ none → get_or u k false ≡ get_or v k false) → fill c κ e acc u ≡ fill c κ e acc v
  unfolding fill
  fill_ext acc [] [] n h = refl
  fill_ext acc [] (t ∷ v) n h = absurd (omega arith)
  fill_ext acc (s ∷ u) [] n h = absurd (omega arith)
  fill_ext acc (s ∷ u) (t ∷ v) n h =
      let a = forced κ acc (owner c e (length acc)) s in
      let b = forced κ acc (owner c e (length acc)) t in
      let p : a ≡ b = go (owner c e (length acc)) (λ q. h 0 (ap (owner c e) (add-zero (length acc)) ∙ q)) in
      rw p (ap {B = List Bool} (λ r. b ∷ r) (fill_ext (acc ++ (b ∷ [])) u v (suc_inj n) (λ k q. h (suc k) (ap (owner c e) (longer acc b k) ∙ q))))
    where
      go : (o : Option Row) → (o ≡ none → s ≡ t) → forced κ acc o s ≡ forced κ acc o t
      go none f = f refl
      go (some x) f = refl

      longer : (w : List Bool) (b : Bool) (k : ℕ) → length w + suc k ≡ length (w ++ (b ∷ [])) + k
      longer w b k = rw (length-append w (b ∷ [])) (omega arith)

  -- and they stay
  pub fill-free : (acc z : List Bool) (k : ℕ) → owner c e (length acc + k) ≡ none → get_or (fill c κ e acc z) k false ≡ get_or z k false
  unfolding fill
  fill-free acc [] k h = refl
  fill-free acc (t ∷ z) zero h = go (owner c e (length acc)) (ap (owner c e) (sym (add-zero (length acc))) ∙ h)
    where
      go : (o : Option Row) → o ≡ none → forced κ acc o t ≡ t
      go none q = refl
      go (some x) q = let y : ◌≡◌ {A = ℕ} 0 1 = cc in absurd (omega arith)
  fill-free acc (t ∷ z) (suc k) h =
      let u = forced κ acc (owner c e (length acc)) t in
      fill-free (acc ++ (u ∷ [])) z k (ap (owner c e) (rw (length-append acc (u ∷ [])) (omega arith)) ∙ h)

  -- the free unknowns all 0: no solution is before it; all 1: it is before none
  first-keeps : (acc z : List Bool) → keeps c κ e acc z ≡ true → before z (fill c κ e acc (replicate (length z) false)) ≡ false
  unfolding fill keeps
  first-keeps acc [] h = refl
  first-keeps acc (t ∷ z) h = go (owner c e (length acc)) t (and_l (keep κ acc (owner c e (length acc)) t) (keeps c κ e (acc ++ (t ∷ [])) z) h) (first-keeps (acc ++ (t ∷ [])) z (and_r (keep κ acc (owner c e (length acc)) t) (keeps c κ e (acc ++ (t ∷ [])) z) h))
    where
      same : (s : Bool) → before z (fill c κ e (acc ++ (s ∷ [])) (replicate (length z) false)) ≡ false → (u : Bool) → u ≡ s → before (s ∷ z) (u ∷ fill c κ e (acc ++ (u ∷ [])) (replicate (length z) false)) ≡ false
      same true m true q = m
      same true m false q = absurd (false≢true q)
      same false m true q = absurd (true≢false q)
      same false m false q = m

      go : (o : Option Row) (s : Bool) → keep κ acc o s ≡ true → before z (fill c κ e (acc ++ (s ∷ [])) (replicate (length z) false)) ≡ false
          → before (s ∷ z) (forced κ acc o false ∷ fill c κ e (acc ++ (forced κ acc o false ∷ [])) (replicate (length z) false)) ≡ false
      go none true k m = refl
      go none false k m = m
      go (some x) s k m = same s m (dot 0 x acc ⊕ κ x) (keep-forced acc (some x) s k)

  last-keeps : (acc z : List Bool) → keeps c κ e acc z ≡ true → before (fill c κ e acc (replicate (length z) true)) z ≡ false
  unfolding fill keeps
  last-keeps acc [] h = refl
  last-keeps acc (t ∷ z) h = go (owner c e (length acc)) t (and_l (keep κ acc (owner c e (length acc)) t) (keeps c κ e (acc ++ (t ∷ [])) z) h) (last-keeps (acc ++ (t ∷ [])) z (and_r (keep κ acc (owner c e (length acc)) t) (keeps c κ e (acc ++ (t ∷ [])) z) h))
    where
      same : (s : Bool) → before (fill c κ e (acc ++ (s ∷ [])) (replicate (length z) true)) z ≡ false → (u : Bool) → u ≡ s → before (u ∷ fill c κ e (acc ++ (u ∷ [])) (replicate (length z) true)) (s ∷ z) ≡ false
      same true m true q = m
      same true m false q = absurd (false≢true q)
      same false m true q = absurd (true≢false q)
      same false m false q = m

      go : (o : Option Row) (s : Bool) → keep κ acc o s ≡ true → before (fill c κ e (acc ++ (s ∷ [])) (replicate (length z) true)) z ≡ false
          → before (forced κ acc o true ∷ fill c κ e (acc ++ (forced κ acc o true ∷ [])) (replicate (length z) true)) (s ∷ z) ≡ false
      go none true k m = m
      go none false k m = refl
      go (some x) s k m = same s m (dot 0 x acc ⊕ κ x) (keep-forced acc (some x) s k)

  -- a row with no pivot has the same sum
  pub dot-fill : (acc z : List Bool) (x : Row) → ((t : ℕ) (y : Row) → owner c e t ≡ some y → has t x ≡ false) → dot (length acc) x (fill c κ e acc z) ≡ dot (length acc) x z
  unfolding fill dot
  dot-fill acc [] x h = refl
  dot-fill acc (t ∷ z) x h =
      let u = forced κ acc (owner c e (length acc)) t in
      let n : length (acc ++ (u ∷ [])) ≡ suc (length acc) = length-append acc (u ∷ []) ∙ omega arith in
      ap₂ ◌⊕◌ (go (owner c e (length acc)) (h (length acc)))
      (ap (λ (k : ℕ). dot k x (fill c κ e (acc ++ (u ∷ [])) z)) (sym n) ∙ dot-fill (acc ++ (u ∷ [])) z x h ∙ ap (λ (k : ℕ). dot k x z) n)
    where
      go : (o : Option Row) → ((y : Row) → o ≡ some y → has (length acc) x ≡ false) → has (length acc) x && forced κ acc o t ≡ has (length acc) x && t
      go none f = refl
      go (some y) f = rw (f y refl) refl

  -- ---- how many

  -- how many of the next n are free
  abbrev frees : ℕ → ℕ → ℕ
  frees b n = tally (λ (k : ℕ). free c e (b + k)) n

  frees-suc : (b n : ℕ) → frees b (suc n) ≡ bit (free c e b) + frees (suc b) n
  frees-suc b n =
      tally_first (λ (k : ℕ). free c e (b + k)) n
      ∙ ap₂ (λ (u v : ℕ). bit (free c e u) + v) (add-zero b) (tally_ext (λ (k : ℕ). free c e (b + suc k)) (λ (k : ℕ). free c e (suc b + k)) n (λ k l. ap (free c e) (omega arith)))

  snoc_length : (acc : List Bool) (t : Bool) → length (acc ++ (t ∷ [])) ≡ suc (length acc)
  snoc_length acc t = length-append acc (t ∷ []) ∙ omega arith

  -- both, or one of the two
  halves : (acc : List Bool) (o : Option Row) (p q : List Bool → Bool) (n m : ℕ) → count p (all_bits n) ≡ 2 ^ m → count q (all_bits n) ≡ 2 ^ m
      → count (λ (v : List Bool). keep κ acc o false && p v) (all_bits n) + count (λ (v : List Bool). keep κ acc o true && q v) (all_bits n) ≡ 2 ^ (bit (is_none o) + m)
  halves acc none p q n m f t = let s : 1 + m ≡ suc m = omega arith in rw (f, t, s) (omega arith)
  halves acc (some x) p q n m f t = go (dot 0 x acc ⊕ κ x)
    where
      go : (d : Bool) → count (λ (v : List Bool). not d && p v) (all_bits n) + count (λ (v : List Bool). not (not d) && q v) (all_bits n) ≡ 2 ^ (0 + m)
      go true = rw (count_none (all_bits n), zero-add m, zero-add (count q (all_bits n))) t
      go false = rw (count_none (all_bits n), zero-add m, add-zero (count p (all_bits n))) f

  count-keeps : (n : ℕ) (acc : List Bool) → count (keeps c κ e acc) (all_bits n) ≡ 2 ^ frees (length acc) n
  unfolding keeps all_bits tally
  count-keeps zero acc = refl
  count-keeps (suc n) acc =
      count-suc (keeps c κ e acc) n
      ∙ halves acc (owner c e (length acc)) (keeps c κ e (acc ++ (false ∷ []))) (keeps c κ e (acc ++ (true ∷ []))) n (frees (suc (length acc)) n)
      (count-keeps n (acc ++ (false ∷ [])) ∙ ap (λ (b : ℕ). 2 ^ frees b n) (snoc_length acc false))
      (count-keeps n (acc ++ (true ∷ [])) ∙ ap (λ (b : ℕ). 2 ^ frees b n) (snoc_length acc true))
      ∙ ap (λ (m : ℕ). 2 ^ m) (sym (frees-suc (length acc) n))

-- ---- the equations hold where they are consistent and each pivot follows

module _ (c : ℕ) (κ : Row → Bool) (e : List Row) (D : Distinct c e) (z : List Bool) (hz : length z ≤ 64 * c) (B : Within c (length z) e) where
  -- an equation with no coefficient
  value_none : (x : Row) → lead c x ≡ 0 → value κ z x ≡ κ x
  value_none x q = ap (λ (b : Bool). b ⊕ κ x) (dot-no-lead c x z hz q)

  -- one with the pivot b
  pub value-lead : (x : Row) (b : ℕ) → lead c x ≡ suc b → b < length z → value κ z x ≡ get_or z b false ⊕ (dot 0 x (take b z) ⊕ κ x)
  value-lead x b q l =
      ap (λ (u : Bool). u ⊕ κ x) (dot-lead c x z b hz q l ∙ ⊕-comm (dot 0 x (take b z)) (get_or z b false)) ∙ ⊕-assoc (get_or z b false) (dot 0 x (take b z)) (κ x)

  led-none : (x : Row) → lead c x ≡ 0 → led c x ≡ false
  led-none x q = ap not (eq-eqb (lead c x) 0 q)

  led-some : (x : Row) (b : ℕ) → lead c x ≡ suc b → led c x ≡ true
  led-some x b q = ap not (ne_eqb (lead c x) 0 (λ (v : lead c x ≡ 0). omega arith))

  len_take : (b : ℕ) → b < length z → length (take b z) ≡ b
  len_take b l = length-take-le b z (omega arith)

  solves-consistent : solves κ e z ≡ true → consistent c κ e ≡ true
  solves-consistent h = at_all (λ (x : Row). led c x || not (κ x)) [] e (λ k l. go (at e k) (lead c (at e k)) refl (all-at (λ (x : Row). not (value κ z x)) [] e h k l))
    where
      go : (x : Row) (n : ℕ) → lead c x ≡ n → not (value κ z x) ≡ true → led c x || not (κ x) ≡ true
      go x zero q m = rw (led-none x q) (rw (value_none x q) at m)
      go x (suc b) q m = rw (led-some x b q) refl

  solves-keeps : solves κ e z ≡ true → keeps c κ e [] z ≡ true
  solves-keeps h = at-keeps c κ e [] z (λ k l. rw (len_take k l) (go k l (owner c e k) refl))
    where
      go : (k : ℕ) → k < length z → (o : Option Row) → owner c e k ≡ o → keep κ (take k z) o (get_or z k false) ≡ true
      go k l none q = refl
      go k l (some x) q =
          let (j, lj, a, m) = owner-some c e k x q in
          rw (value-lead x k m l) at (rw a at (all-at (λ (y : Row). not (value κ z y)) [] e h j lj))

  keeps-solves : consistent c κ e ≡ true → keeps c κ e [] z ≡ true → solves κ e z ≡ true
  keeps-solves hc hk = at_all (λ (x : Row). not (value κ z x)) [] e (λ k l. go k l (lead c (at e k)) refl (all-at (λ (x : Row). led c x || not (κ x)) [] e hc k l))
    where
      go : (k : ℕ) → k < length e → (n : ℕ) → lead c (at e k) ≡ n → led c (at e k) || not (κ (at e k)) ≡ true → not (value κ z (at e k)) ≡ true
      go k l zero q m = rw (value_none (at e k) q) (rw (led-none (at e k) q) at m)
      go k l (suc b) q m =
          let p : b < length z = rw q at (B k l) in
          let w : keep κ (take b z) (owner c e (length (take b z))) (get_or z b false) ≡ true = keeps-at c κ e [] z hk b p in
          let v : keep κ (take b z) (some (at e k)) (get_or z b false) ≡ true = rw (len_take b p, owner-is c e D k b l q) at w in
          rw (value-lead (at e k) b q p) v

  solves-is : solves κ e z ≡ consistent c κ e && keeps c κ e [] z
  solves-is =
      bool_ext (solves κ e z) (consistent c κ e && keeps c κ e [] z)
      (λ h. and_i (consistent c κ e) (keeps c κ e [] z) (solves-consistent h) (solves-keeps h))
      (λ h. keeps-solves (and_l (consistent c κ e) (keeps c κ e [] z) h) (and_r (consistent c κ e) (keeps c κ e [] z) h))

-- ---- the solutions

owned-cons : (c : ℕ) (x : Row) (e : List Row) (b : ℕ) → not (free c (x ∷ e) b) ≡ eqb (lead c x) (suc b) || not (free c e b)
unfolding owner
owned-cons c x e b = go (eqb (lead c x) (suc b))
  where
    go : (s : Bool) → not (is_none (pick s (some x) (owner c e b))) ≡ s || not (free c e b)
    go true = refl
    go false = refl

-- as many owned unknowns as equations with a coefficient
owned-count : (c : ℕ) (e : List Row) (g : ℕ) → Distinct c e → Within c g e → tally (λ (b : ℕ). not (free c e b)) g ≡ count (led c) e
unfolding owner
owned-count c [] g D B = tally_false g
owned-count c (x ∷ e) g D B =
    tally_ext (λ (b : ℕ). not (free c (x ∷ e) b)) (λ (b : ℕ). eqb (lead c x) (suc b) || not (free c e b)) g (λ b l. owned-cons c x e b)
    ∙ tally_or (λ (b : ℕ). eqb (lead c x) (suc b)) (λ (b : ℕ). not (free c e b)) g (λ b l q. apart b (eqb-true (lead c x) (suc b) q) (owner c e b) refl)
    ∙ ap₂ ◌+◌ (tally_at (lead c x) g (B 0 (omega arith))) (owned-count c e g (λ j k b lj lk p q. let w = D (suc j) (suc k) b (omega arith) (omega arith) p q in omega arith) (λ k l. B (suc k) (omega arith)))
  where
    apart : (b : ℕ) → lead c x ≡ suc b → (o : Option Row) → owner c e b ≡ o → not (is_none o) ≡ false
    apart b q none m = refl
    apart b q (some y) m =
        let (k, l, a, u) = owner-some c e b y m in
        let w = D 0 (suc k) b (omega arith) (omega arith) q (ap (lead c) a ∙ u) in
        absurd (omega arith)

module _ (c : ℕ) (κ : Row → Bool) (e : List Row) (g : ℕ) (hg : g ≤ 64 * c) (D : Distinct c e) (B : Within c g e) where
  is : (z : List Bool) → length z ≡ g → solves κ e z ≡ consistent c κ e && keeps c κ e [] z
  is z n = solves-is c κ e D z (omega arith) (λ k l. rw n (B k l))

  -- a system with a solution is consistent
  pub is-consistent : (z : List Bool) → length z ≡ g → solves κ e z ≡ true → consistent c κ e ≡ true
  is-consistent z n h = and_l (consistent c κ e) (keeps c κ e [] z) (sym (is z n) ∙ h)

  -- in a consistent one any choice of the free unknowns is completed to a solution
  pub is-solved : consistent c κ e ≡ true → (z : List Bool) → length z ≡ g → solves κ e (completed c κ e z) ≡ true
  is-solved h z n = is (completed c κ e z) (length-fill c κ e [] z ∙ n) ∙ and_i (consistent c κ e) (keeps c κ e [] (completed c κ e z)) h (fill-keeps c κ e [] z)

  -- and every solution is the completion of itself
  pub is-completed : (z : List Bool) → length z ≡ g → solves κ e z ≡ true → completed c κ e z ≡ z
  is-completed z n h = keeps-fill c κ e [] z (and_r (consistent c κ e) (keeps c κ e [] z) (sym (is z n) ∙ h))

  -- so two solutions that agree at the free unknowns are one
  pub is_unique : (u v : List Bool) → length u ≡ g → length v ≡ g → solves κ e u ≡ true → solves κ e v ≡ true
      → ((k : ℕ) → owner c e k ≡ none → get_or u k false ≡ get_or v k false) → u ≡ v
  is_unique u v nu nv hu hv h =
      sym (is-completed u nu hu) ∙ fill_ext c κ e [] u v (nu ∙ sym nv) (λ k q. h k (ap (owner c e) (sym (zero-add k)) ∙ q)) ∙ is-completed v nv hv

  -- the first and the last solution
  pub is-first : (z : List Bool) → length z ≡ g → solves κ e z ≡ true → before z (completed c κ e (replicate g false)) ≡ false
  is-first z n h = rw (← n) (first-keeps c κ e [] z (and_r (consistent c κ e) (keeps c κ e [] z) (sym (is z n) ∙ h)))

  pub is_last : (z : List Bool) → length z ≡ g → solves κ e z ≡ true → before (completed c κ e (replicate g true)) z ≡ false
  is_last z n h = rw (← n) (last-keeps c κ e [] z (and_r (consistent c κ e) (keeps c κ e [] z) (sym (is z n) ∙ h)))

  -- the number of free unknowns
  free-count : tally (free c e) g ≡ g - count (led c) e
  free-count = let a = owned-count c e g D B in let b = tally_not (free c e) g in omega arith

  pub count-led_le : count (led c) e ≤ g
  count-led_le = let a = owned-count c e g D B in let b = tally_not (free c e) g in omega arith

  -- how many solutions
  pub is-counted : count (solves κ e) (all_bits g) ≡ pick (consistent c κ e) (2 ^ (g - count (led c) e)) 0
  is-counted = count_bits (solves κ e) (λ (z : List Bool). consistent c κ e && keeps c κ e [] z) g is ∙ go (consistent c κ e)
    where
      go : (b : Bool) → count (λ (z : List Bool). b && keeps c κ e [] z) (all_bits g) ≡ pick b (2 ^ (g - count (led c) e)) 0
      go true = count-keeps c κ e g [] ∙ ap (λ (m : ℕ). 2 ^ m) (tally_ext (λ (k : ℕ). free c e (0 + k)) (free c e) g (λ k l. ap (free c e) (zero-add k)) ∙ free-count)
      go false = count_none (all_bits g)
