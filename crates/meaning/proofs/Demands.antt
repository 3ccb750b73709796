-- The archivist's demands 2 and 3, of `decoding`, the definition that decode's promise cites.
-- Standing premise: no fault of form, and room to answer, so that no refusal but 18 applies; the sheet has K at least 1.
--     verdict-settled      the first strip, place by place
--     by_form              the table of form is tried first, then 18, then the verdict
--     over, under          over the ceiling, decoding is 18, and under it the verdict on the candidates
--     over_iff             18 exactly when g passes the ceiling
--     unique_iff           unique exactly when one codeword agrees
--     inconsistent_iff     inconsistent exactly when none does
--     ambiguous_iff        ambiguous of dimension d exactly when 2 ^ d do, d at least 1
--     strips_shown         the strips: settled, first, last; later bytes as found
--     demand_3             two words erased in the same places
use mathlib.Core.Path.{◌≡◌, refl, sym, ap, ap₂, ◌∙◌}
use mathlib.Core.Logic.{◌↔◌}
use Prim.Native.Nat.{ℕ, zero, suc, ◌^◌, ◌≤◌, ◌<◌}
use native.Mathlib.Omega.{arith}
use mathlib.Core.Bool.{Bool, true, false}
use mathlib.Core.List.{List, [], ◌∷◌, ◌++◌, map, Memᴰ, append_assoc}
use lib.ListN.{length, drop, get_or, get_or-append}
use lib.Dec.{ltb}
use lib.Pow.{pow_pos}
use borrow.Author.Tests.{ltb-true, ltb-false, lt-ltb, le-ltb}
use Rattle.bits.specs.Vectors.{pick}
use Rattle.bits.proofs.Tests.{length-tab, tab-at}
use Rattle.meaning.specs.Sheet.{Rule, rules}
use Rattle.meaning.specs.Codewords.{erased, candidates}
use Rattle.meaning.specs.Open.{open_all, unknowns, equations}
use Rattle.meaning.specs.Strips.{log2, dimension, settled, settled_at, first, last, strips}
use Rattle.meaning.specs.Answers.{numbers_of, first_of, refuses, form_refusals, decode_refusals, Reply, leaving, verdict, decoding}
use Rattle.meaning.specs.declared.Answer.TheVariants.{TooMany}
use Rattle.meaning.proofs.Refusals.{first_append, first-none}
use Rattle.meaning.proofs.Dimension.{dimension_pow, dimension-is}
use Rattle.meaning.proofs.Coset.{same_number, same-settled}

-- ---- the five numbers of a reply

abbrev pub code : Reply → ℕ
code a = get_or (numbers_of a.answer) 0 0

abbrev pub g_of_lem : Reply → ℕ
g_of_lem a = get_or (numbers_of a.answer) 2 0

abbrev pub m_of_lem : Reply → ℕ
m_of_lem a = get_or (numbers_of a.answer) 3 0

abbrev pub d_of_lem : Reply → ℕ
d_of_lem a = get_or (numbers_of a.answer) 4 0

pub at : (k : ℕ) {x y : List ℕ} → x ≡ y → get_or x k 0 ≡ get_or y k 0
at k p = ap (λ (l : List ℕ). get_or l k 0) p

-- ---- the verdict by the number of candidates

abbrev pub code_by : ℕ → ℕ
code_by zero = 2
code_by (suc zero) = 0
code_by (suc (suc k)) = 1

abbrev pub d_by : ℕ → ℕ
d_by zero = 0
d_by (suc zero) = 0
d_by (suc (suc k)) = log2 (suc (suc k)) (suc (suc k))

module _ (n g m : ℕ) (out : List ℕ) where
  pub verdict_numbers : (cs : List (List Bool)) → numbers_of (verdict n g m cs out).answer ≡ code_by (length cs) ∷ 0 ∷ g ∷ m ∷ d_by (length cs) ∷ []
  unfolding verdict dimension
  verdict_numbers [] = refl
  verdict_numbers (x ∷ []) = refl
  verdict_numbers (x ∷ y ∷ cs) = refl

  pub verdict_shown : (cs : List (List Bool)) → 0 < length cs → (verdict n g m cs out).bytes ≡ strips n cs ++ drop (length (strips n cs)) out
  unfolding verdict
  verdict_shown [] h = absurd (omega arith)
  verdict_shown (x ∷ []) h = refl
  verdict_shown (x ∷ y ∷ cs) h = refl

  -- place j of the first strip
  pub verdict-settled : (cs : List (List Bool)) → 0 < length cs → (j : ℕ) → j < 2 ^ n → get_or (verdict n g m cs out).bytes j 0 ≡ settled_at cs j
  unfolding strips settled
  verdict-settled cs h j l =
      let t : List ℕ = settled (2 ^ n) cs in
      let lt : length t ≡ 2 ^ n = length-tab (2 ^ n) (settled_at cs) in
      let e : (verdict n g m cs out).bytes ≡ t ++ (first cs ++ (last cs ++ drop (length (strips n cs)) out)) =
      verdict_shown cs h ∙ append_assoc (t ++ first cs) (last cs) (drop (length (strips n cs)) out) ∙ append_assoc t (first cs) (last cs ++ drop (length (strips n cs)) out) in
      ap (λ (b : List ℕ). get_or b j 0) e ∙ get_or-append t _ 0 j (omega arith) ∙ tab-at (2 ^ n) (settled_at cs) j 0 l

pub code_one : (k : ℕ) → code_by k ≡ 0 → k ≡ 1
code_one zero h = absurd (omega arith)
code_one (suc zero) h = refl
code_one (suc (suc k)) h = absurd (omega arith)

pub code-none : (k : ℕ) → code_by k ≡ 2 → k ≡ 0
code-none zero h = refl
code-none (suc zero) h = absurd (omega arith)
code-none (suc (suc k)) h = absurd (omega arith)

pub code_more : (k : ℕ) → code_by k ≡ 1 → (1 < k) × (d_by k ≡ log2 k k)
code_more zero h = absurd (omega arith)
code_more (suc zero) h = absurd (omega arith)
code_more (suc (suc k)) h = (omega arith, refl)

more_code : (k : ℕ) → 1 < k → (code_by k ≡ 1) × (d_by k ≡ log2 k k)
more_code zero h = absurd (omega arith)
more_code (suc zero) h = absurd (omega arith)
more_code (suc (suc k)) h = (refl, refl)

pub code-small : (k : ℕ) → code_by k ≤ 1 → 0 < k
code-small zero h = absurd (omega arith)
code-small (suc k) h = omega arith

pub code-not_18 : (k : ℕ) → code_by k ≡ 18 → ⊥
code-not_18 zero h = omega arith
code-not_18 (suc zero) h = omega arith
code-not_18 (suc (suc k)) h = omega arith

-- ---- the steps of decoding

module _ (n : ℕ) (s : List ℕ) (r c : ℕ) (w out : List ℕ) where
  abbrev ks : List Rule
  ks = rules n s

  abbrev g : ℕ
  g = unknowns n ks w

  abbrev m : ℕ
  m = equations n ks r w

  abbrev cs : List (List Bool)
  cs = candidates n ks r w

  -- what stands after the table of form: 18, or the verdict
  abbrev pub decided : Reply
  decided = pick (ltb c g) (leaving out (TooMany g)) (verdict n g m cs out)

  pub by_form : decoding n s r c w out ≡ first_of (leaving out) (form_refusals n s r c w (length out)) decided
  unfolding decoding decode_refusals
  by_form = first_append (leaving out) (form_refusals n s r c w (length out)) _ (verdict n g m cs out)

  -- ---- no fault of form

  module _ (ok : refuses (form_refusals n s r c w (length out)) ≡ false) where
    judged : decoding n s r c w out ≡ decided
    judged = by_form ∙ first-none (leaving out) (form_refusals n s r c w (length out)) _ ok

    pub over : c < g → decoding n s r c w out ≡ leaving out (TooMany g)
    over h = judged ∙ rw (lt-ltb c g h)

    pub under : g ≤ c → decoding n s r c w out ≡ verdict n g m cs out
    under h = judged ∙ rw (le-ltb c g h)

    numbers_under : g ≤ c → numbers_of (decoding n s r c w out).answer ≡ code_by (length cs) ∷ 0 ∷ g ∷ m ∷ d_by (length cs) ∷ []
    numbers_under h = ap (λ (a : Reply). numbers_of a.answer) (under h) ∙ verdict_numbers n g m out cs

    -- demand 2: refused for size exactly when its unknowns pass the ceiling
    pub over_iff : (code (decoding n s r c w out) ≡ 18) ↔ (c < g)
    over_iff = (λ e. go (ltb c g) refl e, λ h. ap code (over h))
      where
        go : (b : Bool) → ltb c g ≡ b → code (decoding n s r c w out) ≡ 18 → c < g
        go true q e = ltb-true c g q
        go false q e = absurd (code-not_18 (length cs) (sym (at 0 (numbers_under (ltb-false c g q))) ∙ e))

    module _ (h : g ≤ c) where
      pub unique_iff : (numbers_of (decoding n s r c w out).answer ≡ 0 ∷ 0 ∷ g ∷ m ∷ 0 ∷ []) ↔ (length cs ≡ 1)
      unique_iff = (λ e. code_one (length cs) (at 0 (sym (numbers_under h) ∙ e)), λ e. numbers_under h ∙ rw e)

      pub inconsistent_iff : (numbers_of (decoding n s r c w out).answer ≡ 2 ∷ 0 ∷ g ∷ m ∷ 0 ∷ []) ↔ (length cs ≡ 0)
      inconsistent_iff = (λ e. code-none (length cs) (at 0 (sym (numbers_under h) ∙ e)), λ e. numbers_under h ∙ rw e)

      pub ambiguous_iff : (d : ℕ) → (numbers_of (decoding n s r c w out).answer ≡ 1 ∷ 0 ∷ g ∷ m ∷ d ∷ []) ↔ ((1 ≤ d) × (length cs ≡ 2 ^ d))
      unfolding dimension
      ambiguous_iff d = (
        λ e.
            let (l, k) = code_more (length cs) (at 0 (sym (numbers_under h) ∙ e)) in
            let p : length cs ≡ 2 ^ d = dimension-is n ks r w (omega arith) ∙ ap (λ (x : ℕ). 2 ^ x) (sym k ∙ at 4 (sym (numbers_under h) ∙ e)) in
            (positive d p l, p),
        λ (l, p).
            let q = more_code (length cs) (rw p (two d l)) in
            numbers_under h ∙ ap₂ {C = List ℕ} (λ (x y : ℕ). x ∷ 0 ∷ g ∷ m ∷ y ∷ []) q.0 (q.1 ∙ dimension_pow cs d p),
      )
        where
          positive : (d : ℕ) → length cs ≡ 2 ^ d → 1 < length cs → 1 ≤ d
          positive zero p l = absurd (omega arith)
          positive (suc d) p l = omega arith

          two : (d : ℕ) → 1 ≤ d → 1 < 2 ^ d
          two zero l = absurd (omega arith)
          two (suc d) l = omega (arith, pow_pos d)

      -- where any codeword agrees, the strips are written, and bytes past them stay
      pub strips_shown : 0 < length cs → (decoding n s r c w out).bytes ≡ strips n cs ++ drop (length (strips n cs)) out
      strips_shown l = ap (λ (a : Reply). a.bytes) (under h) ∙ verdict_shown n g m out cs l

-- ---- demand 3

-- what two replies share: both over the ceiling or neither, equal counts; if both are accepted, equal verdict, dimension and settled places
pub record SameFate (n : ℕ) (a b : Reply) : Type 0 where
  pub over : (code a ≡ 18) ↔ (code b ≡ 18)
  pub unknowns : g_of_lem a ≡ g_of_lem b
  pub equations : m_of_lem a ≡ m_of_lem b
  pub accepted : code a ≤ 1 → code b ≤ 1 → (code a ≡ code b) × (d_of_lem a ≡ d_of_lem b) × ((j : ℕ) → j < 2 ^ n → (get_or a.bytes j 0 ≡ 2) ↔ (get_or b.bytes j 0 ≡ 2))

pub head_in : (cs : List (List Bool)) → 0 < length cs → (x : List Bool) × Memᴰ x cs
head_in [] h = absurd (omega arith)
head_in (x ∷ cs) h = (x, Memᴰ.head refl)

module _ (n : ℕ) (s : List ℕ) (r : ℕ) (w w' : List ℕ) (e : map erased w ≡ map erased w') where
  pub same-unknowns : unknowns n (rules n s) w ≡ unknowns n (rules n s) w'
  unfolding unknowns open_all
  same-unknowns = rw e

  pub same-equations : equations n (rules n s) r w ≡ equations n (rules n s) r w'
  unfolding equations open_all
  same-equations = rw e

  pub demand_3 : (c : ℕ) (out out' : List ℕ) → refuses (form_refusals n s r c w (length out)) ≡ false → refuses (form_refusals n s r c w' (length out')) ≡ false
      → SameFate n (decoding n s r c w out) (decoding n s r c w' out')
  demand_3 c out out' ok ok' = go (ltb c g₁) refl
    where
      g₁ : ℕ
      g₁ = unknowns n (rules n s) w

      g₂ : ℕ
      g₂ = unknowns n (rules n s) w'

      m₁ : ℕ
      m₁ = equations n (rules n s) r w

      m₂ : ℕ
      m₂ = equations n (rules n s) r w'

      cs₁ : List (List Bool)
      cs₁ = candidates n (rules n s) r w

      cs₂ : List (List Bool)
      cs₂ = candidates n (rules n s) r w'

      -- both over
      refused : SameFate n (leaving out (TooMany g₁)) (leaving out' (TooMany g₂))
      refused = record {
        over = (λ p. refl, λ p. refl);
        unknowns = same-unknowns;
        equations = refl;
        accepted = λ p q. absurd (omega arith);
      }

      -- neither over
      told : SameFate n (verdict n g₁ m₁ cs₁ out) (verdict n g₂ m₂ cs₂ out')
      told =
          let a = verdict_numbers n g₁ m₁ out cs₁ in
          let b = verdict_numbers n g₂ m₂ out' cs₂ in
          record {
            over = (λ p. absurd (code-not_18 (length cs₁) (sym (at 0 a) ∙ p)), λ p. absurd (code-not_18 (length cs₂) (sym (at 0 b) ∙ p)));
            unknowns = at 2 a ∙ same-unknowns ∙ sym (at 2 b);
            equations = at 3 a ∙ same-equations ∙ sym (at 3 b);
            accepted = λ p q.
                let l₁ : 0 < length cs₁ = code-small (length cs₁) (rw (at 0 a) at p) in
                let l₂ : 0 < length cs₂ = code-small (length cs₂) (rw (at 0 b) at q) in
                let (x, mx) = head_in cs₁ l₁ in
                let (y, my) = head_in cs₂ l₂ in
                let l : length cs₁ ≡ length cs₂ = same_number n (rules n s) r w w' e x y mx my in (
                  at 0 a ∙ ap code_by l ∙ sym (at 0 b),
                  at 4 a ∙ ap d_by l ∙ sym (at 4 b),
                  λ j k.
                      let t = same-settled n (rules n s) r w w' e x y mx my j in
                      let u = verdict-settled n g₁ m₁ out cs₁ l₁ j k in
                      let v = verdict-settled n g₂ m₂ out' cs₂ l₂ j k in
                      (λ z. v ∙ t.0 (sym u ∙ z), λ z. u ∙ t.1 (sym v ∙ z)),
                );
          }

      go : (b : Bool) → ltb c g₁ ≡ b → SameFate n (decoding n s r c w out) (decoding n s r c w' out')
      go true q = rw (over n s r c w out ok (ltb-true c g₁ q), over n s r c w' out' ok' (rw same-unknowns at (ltb-true c g₁ q))) refused
      go false q = rw (under n s r c w out ok (ltb-false c g₁ q), under n s r c w' out' ok' (rw same-unknowns at (ltb-false c g₁ q))) told
