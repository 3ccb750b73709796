-- What 01 says of decoding, sentence by sentence, of any result that decode's promise allows.
--     one_iff, none_iff     one candidate, or none: one codeword agrees, or none does
--     said, result_said     all the sentences, of `decoding`, and of any answer and bytes that its promise allows
use mathlib.Core.Path.{◌≡◌, refl, sym, ap, subst, ◌∙◌}
use mathlib.Core.Logic.{⊎_elim, ◌↔◌}
use Prim.Native.Nat.{ℕ, zero, suc, ◌*◌, ◌^◌, ◌≤◌, ◌<◌}
use native.Mathlib.Omega.{arith}
use mathlib.Core.Bool.{Bool, true, false, not, ◌||◌, false≢true}
use mathlib.Core.List.Memᴰ
use mathlib.Core.List.{List, [], ◌∷◌, ◌++◌, map, Memᴰ}
use lib.ListN.{length, drop, get_or}
use lib.Seq.{drop_at}
use lib.Dec.{eqb}
use Rattle.bits.specs.Vectors.{before, Rises, ones}
use Rattle.bits.proofs.Rising.{before_irr}
use Rattle.bits.proofs.Tests.{le_or_lt}
use Rattle.meaning.specs.Sheet.{Rule, rules}
use Rattle.meaning.specs.Transform.{polar}
use Rattle.meaning.specs.Codewords.{erased, candidates, Agreeing, OneAgrees, NoneAgrees}
use Rattle.meaning.specs.Open.{unknowns, equations}
use Rattle.meaning.specs.Strips.{log2, dimension, strips}
use Rattle.meaning.specs.Answers.{numbers_of, refuses, sheet_refusals, word_refusals, form_refusals, Reply, reply, leaving, verdict, decoding}
use Rattle.meaning.specs.Said.{Said}
use Rattle.meaning.specs.declared.Answer.{Answer}
use Rattle.meaning.specs.declared.Answer.TheVariants.{TooMany}
use Rattle.meaning.proofs.Refusals.{refused_is, refused_untouched}
use Rattle.meaning.proofs.Forms.{form_parts}
use Rattle.meaning.proofs.Sound.{length-rules}
use Rattle.meaning.proofs.Candidates.{Earlier, candidates_rise, candidate_iff}
use Rattle.meaning.proofs.Strips.{candidate_long, strips-long}
use Rattle.meaning.proofs.Gap.{d_le_g, g_le_erased}
use Rattle.meaning.proofs.Dimension.{dimension-is}
use Rattle.meaning.proofs.Demands.{code, code_by, d_by, at, verdict_numbers, code_one, code-none, code-not_18, decided, by_form, over, under}

-- ---- the agreeing codewords

some_in : {A : Type 0} {x : A} {l : List A} → Memᴰ x l → 0 < length l
some_in (Memᴰ.head e) = omega arith
some_in (Memᴰ.tail m) = omega arith

module _ (n : ℕ) (ks : List Rule) (r : ℕ) (w : List ℕ) where
  abbrev cs : List (List Bool)
  cs = candidates n ks r w

  in_list : (l : List (List Bool)) → cs ≡ l → (x : List Bool) → Memᴰ x l ↔ Agreeing n ks r w x
  in_list l e x = subst (λ (t : List (List Bool)). Memᴰ x t ↔ Agreeing n ks r w x) e (candidate_iff n ks r w x)

  one_of : (l : List (List Bool)) → cs ≡ l → length l ≡ 1 → OneAgrees n ks r w
  one_of [] e h = absurd (omega arith)
  one_of (x ∷ []) e h = (x, ((in_list (x ∷ []) e x).0 (Memᴰ.head refl), λ y a. Memᴰ.eq_of_singleton ((in_list (x ∷ []) e y).1 a)))
  one_of (x ∷ y ∷ l) e h = absurd (omega arith)

  of_one : (l : List (List Bool)) → cs ≡ l → OneAgrees n ks r w → length l ≡ 1
  of_one [] e (x, (a, f)) = absurd (omega (arith, some_in ((in_list [] e x).1 a)))
  of_one (x ∷ []) e q = refl
  of_one (x ∷ y ∷ l) e (z, (a, f)) =
      let r : Rises (Earlier n) (x ∷ y ∷ l) = rw e at (candidates_rise n ks r w) in
      let p : x ≡ y = f x ((in_list (x ∷ y ∷ l) e x).0 (Memᴰ.head refl)) ∙ sym (f y ((in_list (x ∷ y ∷ l) e y).0 (Memᴰ.tail (Memᴰ.head refl)))) in
      absurd (before_irr (polar n y) (ap (λ (t : List Bool). before (polar n t) (polar n y)) (sym p) ∙ r.0.0))

  pub one_iff : (length cs ≡ 1) ↔ OneAgrees n ks r w
  one_iff = (one_of cs refl, of_one cs refl)

  pub none_iff : (length cs ≡ 0) ↔ NoneAgrees n ks r w
  none_iff = (λ h x a. omega (arith, some_in ((candidate_iff n ks r w x).1 a)), λ f. all-out cs refl f)
    where
      all-out : (l : List (List Bool)) → cs ≡ l → NoneAgrees n ks r w → length l ≡ 0
      all-out [] e f = refl
      all-out (x ∷ l) e f = absurd (f x ((in_list (x ∷ l) e x).0 (Memᴰ.head refl)))

-- ---- the verdict

-- three strips, and the bytes behind them
behind : (n : ℕ) (out : List ℕ) (l : List (List Bool)) → 0 < length l → ((x : List Bool) → Memᴰ x l → length x ≡ 2 ^ n)
    → drop (3 * 2 ^ n) (strips n l ++ drop (length (strips n l)) out) ≡ drop (3 * 2 ^ n) out
behind n out l h f =
    let e = strips-long n l h f in
    drop_at (strips n l) (drop (length (strips n l)) out) (3 * 2 ^ n) e ∙ ap (λ (k : ℕ). drop k out) e

module _ (n g m : ℕ) (out : List ℕ) where
  untouched : (cs : List (List Bool)) → code (verdict n g m cs out) ≡ 2 → (verdict n g m cs out).bytes ≡ out
  unfolding verdict
  untouched [] h = refl
  untouched (x ∷ []) h = absurd (omega arith)
  untouched (x ∷ y ∷ cs) h = absurd (omega arith)

  rest : (cs : List (List Bool)) → ((x : List Bool) → Memᴰ x cs → length x ≡ 2 ^ n) → drop (3 * 2 ^ n) (verdict n g m cs out).bytes ≡ drop (3 * 2 ^ n) out
  unfolding verdict
  rest [] f = refl
  rest (x ∷ []) f = behind n out (x ∷ []) (omega arith) f
  rest (x ∷ y ∷ cs) f = behind n out (x ∷ y ∷ cs) (omega arith) f

-- ---- decoding

module _ (n : ℕ) (s : List ℕ) (r c : ℕ) (w out : List ℕ) where
  abbrev ks : List Rule
  ks = rules n s

  abbrev g : ℕ
  g = unknowns n ks w

  abbrev m : ℕ
  m = equations n ks r w

  abbrev form : Bool
  form = refuses (form_refusals n s r c w (length out))

  abbrev D : Reply
  D = decoding n s r c w out

  abbrev judged : Reply
  judged = verdict n g m (cs n ks r w) out

  abbrev SaidOf : Reply → Type 0
  SaidOf t = Said n s r c w out (numbers_of t.answer) t.bytes

  -- a fault of form is neither 2 nor 18
  abbrev neither : ℕ → Bool
  neither k = not (eqb k 2 || eqb k 18)

  faulty : form ≡ true → neither (code D) ≡ true
  unfolding form_refusals sheet_refusals word_refusals
  faulty h =
      let p : Answer → Bool = λ a. neither (get_or (numbers_of a) 0 0) in
      ap (λ (t : Reply). p t.answer) (by_form n s r c w out) ∙ refused_is p out (form_refusals n s r c w (length out)) (decided n s r c w out) refl h

  refused_said : form ≡ true → SaidOf D
  refused_said h =
      let same : D.bytes ≡ out = ap (λ (t : Reply). t.bytes) (by_form n s r c w out) ∙ refused_untouched out (form_refusals n s r c w (length out)) _ h in
      record {
        two_untouched = λ e. same;
        rest_stays = ap (drop (3 * 2 ^ n)) same;
        size_told = λ e. absurd (false≢true (ap neither (sym e) ∙ faulty h));
        one_agrees = λ ok. absurd (false≢true (sym ok ∙ h));
        none-agrees = λ ok. absurd (false≢true (sym ok ∙ h));
        counts = λ ok. absurd (false≢true (sym ok ∙ h));
      }

  erased_bound : form ≡ false → g ≤ ones (map erased w)
  erased_bound ok = g_le_erased n ks w (form_parts n s r c w (length out) ok).1.long

  over_said : c < g → SaidOf (leaving out (TooMany g))
  over_said h =
      record {
        two_untouched = λ e. refl;
        rest_stays = refl;
        size_told = λ e. (refl, h, refl);
        one_agrees = λ ok. (λ e. absurd (omega arith), λ (l, o). absurd (omega arith));
        none-agrees = λ ok. (λ e. absurd (omega arith), λ (l, o). absurd (omega arith));
        counts = λ ok. (omega arith, erased_bound ok);
      }

  -- d of the verdict
  dimension_bound : form ≡ false → (k : ℕ) → length (cs n ks r w) ≡ k → d_by k ≤ g
  unfolding dimension
  dimension_bound ok zero e = omega arith
  dimension_bound ok (suc zero) e = omega arith
  dimension_bound ok (suc (suc k)) e =
      let p = dimension-is n ks r w (omega arith) in
      d_le_g n ks r w (d_by (suc (suc k))) (length-rules n s) (form_parts n s r c w (length out) ok).0.ordered (p ∙ ap (λ (j : ℕ). 2 ^ log2 j j) e)

  under_said : g ≤ c → SaidOf judged
  under_said h =
      let v = verdict_numbers n g m out (cs n ks r w) in
      record {
        two_untouched = untouched n g m out (cs n ks r w);
        rest_stays = rest n g m out (cs n ks r w) (candidate_long n ks r w);
        size_told = λ e. absurd (code-not_18 (length (cs n ks r w)) (sym (at 0 v) ∙ e));
        one_agrees = λ ok. (
          λ e. (h, (one_iff n ks r w).0 (code_one (length (cs n ks r w)) (sym (at 0 v) ∙ e))),
          λ (l, o). at 0 v ∙ ap code_by ((one_iff n ks r w).1 o),
        );
        none-agrees = λ ok. (
          λ e. (h, (none_iff n ks r w).0 (code-none (length (cs n ks r w)) (sym (at 0 v) ∙ e))),
          λ (l, o). at 0 v ∙ ap code_by ((none_iff n ks r w).1 o),
        );
        counts = λ ok. (rw (at 4 v, at 2 v) (dimension_bound ok (length (cs n ks r w)) refl), rw (at 2 v) (erased_bound ok));
      }

  pub said : SaidOf D
  said = go form refl
    where
      go : (b : Bool) → form ≡ b → SaidOf D
      go true e = refused_said e
      go false e =
          ⊎_elim
          (λ (h : g ≤ c). subst SaidOf (sym (under n s r c w out e h)) (under_said h))
          (λ (h : c < g). subst SaidOf (sym (over n s r c w out e h)) (over_said h))
          (le_or_lt g c)

  -- of any result that the promise allows
  pub result_said : (x : List ℕ) (a : Answer) → reply x a ≡ D → Said n s r c w out (numbers_of a) x
  result_said x a p = subst SaidOf (sym p) said
