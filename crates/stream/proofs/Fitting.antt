-- What decoding answers fits a record.
--     by_rows              a fact of whatever a table of refusals gives
--     keeps-length         decoding leaves a buffer of the same length
--     fits-two-bytes       each of its five numbers is below 65536
use mathlib.Core.Path.{◌≡◌, refl, sym, ap, ◌∙◌}
use mathlib.Core.Logic.{◌⊎◌, inl, inr}
use Prim.Native.Nat.{ℕ, ◌+◌, ◌*◌, ◌^◌, ◌≤◌, ◌<◌}
use native.Mathlib.Omega.{arith}
use mathlib.Core.Bool.{Bool, true, false}
use mathlib.Core.List.{List, [], ◌∷◌, Memᴰ}
use lib.ListN.{length, length-append, length-drop}
use lib.Dec.{ltb}
use lib.Pow.{pow_mono}
use borrow.Author.Tests.{ltb-true, lt-ltb, eqb-true, not-false}
use Rattle.bits.specs.Vectors.{pick, ones, first_place}
use Rattle.meaning.specs.Limits.{largest_n}
use Rattle.meaning.specs.Sheet.{Rule, free, frozen, rules, bad_record}
use Rattle.meaning.specs.Codewords.{candidates}
use Rattle.meaning.specs.Open.{open_free, closed_frozen, open_all, unknowns, equations}
use Rattle.meaning.specs.Strips.{dimension}
use Rattle.meaning.specs.Answers.{Refusal, first_of, refuses, Reply, leaving, sheet_refusals, word_refusals, form_refusals, decode_refusals, verdict, decoding}
use Rattle.meaning.proofs.Sound.{length-rules}
use Rattle.meaning.proofs.Strips.{candidate_long, strips-long}
use Rattle.meaning.proofs.Dimension.{dimension-is}
use Rattle.meaning.proofs.Gap.{d_le_g}
use Rattle.meaning.proofs.Refusals.{first-none, none_append, refused_untouched}
use Rattle.meaning.proofs.Forms.{Good, good, form_parts}
use Rattle.stream.specs.Laying.{small, Small}

-- a fact of what each row answers, and of what is given where none applies
module _ (P : Reply → Type 0) (out : List ℕ) (z : Reply) where
  abbrev Rows : List Refusal → Type 0
  Rows [] = P z
  Rows (t ∷ ts) = (t.applies ≡ true → P (leaving out t.answer)) × (t.applies ≡ false → Rows ts)

  by_rows : (ts : List Refusal) → Rows ts → P (first_of (leaving out) ts z)
  by_rows [] h = h
  by_rows (t ∷ ts) (f, g) = go t.applies f (λ e. by_rows ts (g e))
    where
      go : (b : Bool) → (b ≡ true → P (leaving out t.answer)) → (b ≡ false → P (first_of (leaving out) ts z)) → P (pick b (leaving out t.answer) (first_of (leaving out) ts z))
      go true p q = p refl
      go false p q = q refl

-- ---- the length of the buffer

verdict-long : (n g m : ℕ) (cs : List (List Bool)) (out : List ℕ) → ((z : List Bool) → Memᴰ z cs → length z ≡ 2 ^ n) → 3 * 2 ^ n ≤ length out
    → length (verdict n g m cs out).bytes ≡ length out
unfolding verdict
verdict-long n g m [] out f h = refl
verdict-long n g m (x ∷ []) out f h = let l = strips-long n (x ∷ []) (omega arith) f in simp (length-append, length-drop) (omega (arith, l))
verdict-long n g m (x ∷ y ∷ cs) out f h = let l = strips-long n (x ∷ y ∷ cs) (omega arith) f in simp (length-append, length-drop) (omega (arith, l))

pub keeps-length : (n : ℕ) (s : List ℕ) (r c : ℕ) (w out : List ℕ) → length (decoding n s r c w out).bytes ≡ length out
unfolding decoding decode_refusals
keeps-length n s r c w out = go (refuses (decode_refusals n s r c w (length out))) refl
  where
    cs : List (List Bool)
    cs = candidates n (rules n s) r w

    go : (b : Bool) → refuses (decode_refusals n s r c w (length out)) ≡ b → length (decoding n s r c w out).bytes ≡ length out
    go true e = ap length (refused_untouched out (decode_refusals n s r c w (length out)) _ e)
    go false e =
        let form = form_parts n s r c w (length out) (none_append (form_refusals n s r c w (length out)) _ e).0 in
        ap (λ (a : Reply). length a.bytes) (first-none (leaving out) (decode_refusals n s r c w (length out)) _ e)
        ∙ verdict-long n _ _ cs out (candidate_long n (rules n s) r w) form.1.roomy

-- ---- the numbers

open_few : (ks : List Rule) (o : List Bool) → ones (open_free ks o) ≤ length ks
open_few [] o = omega arith
open_few (k ∷ ks) [] = omega arith
open_few (free ∷ ks) (true ∷ o) = omega (arith, open_few ks o)
open_few (free ∷ ks) (false ∷ o) = omega (arith, open_few ks o)
open_few (frozen c m ∷ ks) (b ∷ o) = omega (arith, open_few ks o)

closed_few : (ks : List Rule) (o : List Bool) → ones (closed_frozen ks o) ≤ length ks
closed_few [] o = omega arith
closed_few (k ∷ ks) [] = omega arith
closed_few (free ∷ ks) (b ∷ o) = omega (arith, closed_few ks o)
closed_few (frozen c m ∷ ks) (true ∷ o) = omega (arith, closed_few ks o)
closed_few (frozen c m ∷ ks) (false ∷ o) = omega (arith, closed_few ks o)

module _ (n : ℕ) (h : n ≤ largest_n) where
  -- N and the longest check
  size_low : 2 ^ n + 11 < 65536
  unfolding largest_n
  size_low = omega (arith, pow_mono h)

  unknowns_few : (s w : List ℕ) → unknowns n (rules n s) w < 65536
  unfolding unknowns
  unknowns_few s w = omega (arith, open_few (rules n s) (open_all n w), length-rules n s, size_low)

  equations_few : (s w : List ℕ) (r : ℕ) → (r ≡ 0) ⊎ ((r ≡ 6) ⊎ (r ≡ 11)) → equations n (rules n s) r w < 65536
  unfolding equations
  equations_few s w r c = go c
    where
      l : ones (closed_frozen (rules n s) (open_all n w)) ≤ length (rules n s)
      l = closed_few (rules n s) (open_all n w)

      go : (r ≡ 0) ⊎ ((r ≡ 6) ⊎ (r ≡ 11)) → ones (closed_frozen (rules n s) (open_all n w)) + r < 65536
      go (inl e) = omega (arith, l, length-rules n s, size_low)
      go (inr (inl e)) = omega (arith, l, length-rules n s, size_low)
      go (inr (inr e)) = omega (arith, l, length-rules n s, size_low)

  verdict-small : (s w out : List ℕ) (r : ℕ) → Good n s r → (cs : List (List Bool)) → (cs ≡ candidates n (rules n s) r w)
      → Small (verdict n (unknowns n (rules n s) w) (equations n (rules n s) r w) cs out).answer
  unfolding verdict small
  verdict-small s w out r ok [] e = rw (lt-ltb _ 65536 (unknowns_few s w), lt-ltb _ 65536 (equations_few s w r ok.check))
  verdict-small s w out r ok (x ∷ []) e = rw (lt-ltb _ 65536 (unknowns_few s w), lt-ltb _ 65536 (equations_few s w r ok.check))
  verdict-small s w out r ok (x ∷ y ∷ cs) e =
      let l : length (candidates n (rules n s) r w) ≡ 2 ^ dimension (candidates n (rules n s) r w) = dimension-is n (rules n s) r w (omega (arith, ap length (sym e))) in
      let d : dimension (x ∷ y ∷ cs) ≤ unknowns n (rules n s) w = rw e (d_le_g n (rules n s) r w _ (length-rules n s) ok.ordered l) in
      rw (lt-ltb _ 65536 (unknowns_few s w), lt-ltb _ 65536 (equations_few s w r ok.check), lt-ltb (dimension (x ∷ y ∷ cs)) 65536 (omega (arith, d, unknowns_few s w)))

  pub fits-two-bytes : (s : List ℕ) (r c : ℕ) (w out : List ℕ) → Small (decoding n s r c w out).answer
  unfolding decoding decode_refusals form_refusals sheet_refusals word_refusals small
  fits-two-bytes s r c w out =
      by_rows (λ (t : Reply). Small t.answer) out (verdict n (unknowns n (rules n s) w) (equations n (rules n s) r w) (candidates n (rules n s) r w) out) (decode_refusals n s r c w (length out)) (
        λ _. refl,
        λ a. (
          λ e. rw (lt-ltb (bad_record n s) 65536 (omega (arith, ltb-true (bad_record n s) (2 ^ n) e, size_low))),
          λ b. (
            λ _. refl,
            λ k. (
              λ _. refl,
              λ d. (
                λ _. refl,
                λ l. (
                  λ e. rw (lt-ltb (first_place (ltb 2) w) 65536 (omega (arith, ltb-true (first_place (ltb 2) w) (length w) e, eqb-true (length w) (2 ^ n) (not-false _ l), size_low))),
                  λ _. (
                    λ _. refl,
                    λ _. (
                      λ _. refl,
                      λ _. (
                        λ _. rw (lt-ltb (unknowns n (rules n s) w) 65536 (unknowns_few s w)),
                        λ _. verdict-small s w out r (good n s r (rw (a, b, k, d))) (candidates n (rules n s) r w) refl,
                      ),
                    ),
                  ),
                ),
              ),
            ),
          ),
        ),
      )
