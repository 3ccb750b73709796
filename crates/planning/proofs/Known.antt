-- More read, never less known, of `decoding`: the word w' is w with some erased symbols filled in.
--     formed-none, none-formed     an answer is a refusal for no reason but 18, or none, exactly where no fault of form is found
--     g_answered      the g of such an answer is the number of unknowns, in 18 too
--     balanced        under the ceiling its g and m are bound to the number of erased symbols
--     more_known      what the second reply keeps of the first, and what it gains, whatever their buffers
use mathlib.Core.Path.{◌≡◌, refl, sym, ap, ap₂, ◌∙◌}
use mathlib.Core.Logic.{inl, inr, ⊎_elim}
use Prim.Native.Nat.{ℕ, zero, suc, ◌+◌, ◌*◌, ◌^◌, ◌≤◌, ◌<◌}
use native.Mathlib.Omega.{arith}
use mathlib.Core.Bool.{Bool, true, false, not, true≢false}
use mathlib.Core.List.{List, [], ◌∷◌, map, Sublistᴰ}
use lib.ListN.{length, take, drop, get_or}
use lib.Dec.{ltb}
use lib.Pow.{pow-lt, pow-add}
use borrow.Author.Tests.{ltb-true, ltb-false}
use Rattle.bits.specs.Vectors.{ones}
use Rattle.bits.proofs.Tests.{le_or_lt}
use Rattle.meaning.specs.Sheet.{Rule, rules, frees}
use Rattle.meaning.specs.Codewords.{erased, candidates}
use Rattle.meaning.specs.Open.{unknowns, equations}
use Rattle.meaning.specs.Strips.{settled_at, first, last, strips, dimension, log2}
use Rattle.meaning.specs.Answers.{numbers_of, refuses, sheet_refusals, word_refusals, form_refusals, Reply, leaving, verdict, decoding}
use Rattle.meaning.specs.declared.Answer.{Answer}
use Rattle.meaning.specs.declared.Answer.TheVariants.{TooMany}
use Rattle.meaning.proofs.Refusals.{refused_is}
use Rattle.meaning.proofs.Forms.{form_parts}
use Rattle.meaning.proofs.Sound.{length-rules}
use Rattle.meaning.proofs.Strips.{candidate_long, strips-whole, strips-first, strips-last}
use Rattle.meaning.proofs.Dimension.{dimension-is}
use Rattle.meaning.proofs.Demands.{at, code_by, d_by, verdict_numbers, verdict_shown, verdict-settled, code_one, code-none, code_more, code-small, code-not_18, decided, by_form, over, under}
use Rattle.planning.specs.Filled.{filled_in, fetched}
use Rattle.planning.specs.MoreKnown.{code_of, g_of, m_of, d_of, formed, strip, OpenFetched, MoreKnown}
use Rattle.planning.proofs.Among.{sub-length, among, fewer, settled-kept, narrowed, fewer_by_fetching, as_settled, all_left}
use Rattle.planning.proofs.Halving.{halved_all}
use Rattle.planning.proofs.Counts.{balance, fewer_unknowns, more_equations, counts-moved, unknowns_each}

abbrev pub numbers : Reply → List ℕ
numbers t = numbers_of t.answer

-- ---- no fault of form

module _ (n : ℕ) (s : List ℕ) (r c : ℕ) (w out : List ℕ) where
  abbrev reply : Reply
  reply = decoding n s r c w out

  abbrev g : ℕ
  g = unknowns n (rules n s) w

  abbrev m : ℕ
  m = equations n (rules n s) r w

  abbrev cs : List (List Bool)
  cs = candidates n (rules n s) r w

  refused_form : refuses (form_refusals n s r c w (length out)) ≡ true → not (formed (numbers reply)) ≡ true
  unfolding form_refusals sheet_refusals word_refusals
  refused_form h =
      let p : Answer → Bool = λ a. not (formed (numbers_of a)) in
      ap (λ (t : Reply). p t.answer) (by_form n s r c w out) ∙ refused_is p out (form_refusals n s r c w (length out)) (decided n s r c w out) refl h

  -- and the other way round
  pub none-formed : refuses (form_refusals n s r c w (length out)) ≡ false → formed (numbers reply) ≡ true
  none-formed ok =
      ⊎_elim
      (λ (h : g ≤ c). ap (λ (t : Reply). formed (numbers t)) (under n s r c w out ok h) ∙ ap formed (verdict_numbers n g m out cs) ∙ told_formed (length cs))
      (λ h. ap (λ (t : Reply). formed (numbers t)) (over n s r c w out ok h))
      (le_or_lt g c)
    where
      told_formed : (k : ℕ) → formed (code_by k ∷ 0 ∷ g ∷ m ∷ d_by k ∷ []) ≡ true
      told_formed zero = refl
      told_formed (suc zero) = refl
      told_formed (suc (suc k)) = refl

  module _ (ok : formed (numbers reply) ≡ true) where
    pub formed-none : refuses (form_refusals n s r c w (length out)) ≡ false
    formed-none = go (refuses (form_refusals n s r c w (length out))) refl
      where
        go : (b : Bool) → refuses (form_refusals n s r c w (length out)) ≡ b → refuses (form_refusals n s r c w (length out)) ≡ false
        go true e = absurd (true≢false (sym (refused_form e) ∙ ap not ok))
        go false e = e

    word_long : length w ≡ 2 ^ n
    word_long = (form_parts n s r c w (length out) formed-none).1.long

    pub g_answered : g_of (numbers reply) ≡ g
    g_answered = go (ltb c g) refl
      where
        go : (b : Bool) → ltb c g ≡ b → g_of (numbers reply) ≡ g
        go true e = ap (λ (t : Reply). g_of (numbers t)) (over n s r c w out formed-none (ltb-true c g e))
        go false e = ap (λ (t : Reply). g_of (numbers t)) (under n s r c w out formed-none (ltb-false c g e)) ∙ at 2 (verdict_numbers n g m out cs)

    -- m and the erased symbols are N - K + r + g
    pub balanced : (code_of (numbers reply) ≡ 18 → ⊥) → m_of (numbers reply) + ones (map erased w) + frees (rules n s) ≡ 2 ^ n + r + g_of (numbers reply)
    balanced h = go (ltb c g) refl
      where
        go : (b : Bool) → ltb c g ≡ b → m_of (numbers reply) + ones (map erased w) + frees (rules n s) ≡ 2 ^ n + r + g_of (numbers reply)
        go true e = absurd (h (ap (λ (t : Reply). code_of (numbers t)) (over n s r c w out formed-none (ltb-true c g e))))
        go false e =
            rw (g_answered, ap (λ (t : Reply). m_of (numbers t)) (under n s r c w out formed-none (ltb-false c g e)) ∙ at 3 (verdict_numbers n g m out cs))
            (balance n (rules n s) r w (length-rules n s) word_long)

-- ---- lists

-- a part that is no shorter is the whole
sub-whole : {A : Type 0} {l m : List A} → Sublistᴰ l m → length m ≤ length l → l ≡ m
sub-whole Sublistᴰ.slnil h = refl
sub-whole (Sublistᴰ.cons s) h = absurd (omega (arith, sub-length s))
sub-whole {A} (Sublistᴰ.cons-cons e s) h = ap₂ {C = List A} ◌∷◌ e (sub-whole s (omega arith))

pow_back : (d e : ℕ) → 2 ^ d ≤ 2 ^ e → d ≤ e
pow_back d e h = ⊎_elim (λ k. k) (λ k. absurd (omega (arith, pow-lt k))) (le_or_lt d e)

some_d : (k : ℕ) → 0 < k → d_by k ≡ log2 k k
some_d zero h = absurd (omega arith)
some_d (suc zero) h = refl
some_d (suc (suc k)) h = refl

-- of two lists of candidates, neither of them empty, one that is at most 2 ^ k times as long has a d that is larger by k at most
d_within : (n : ℕ) (ks : List Rule) (r : ℕ) (w w' : List ℕ) (k : ℕ) → 0 < length (candidates n ks r w) → 0 < length (candidates n ks r w')
    → length (candidates n ks r w) ≤ length (candidates n ks r w') * 2 ^ k → d_by (length (candidates n ks r w)) ≤ d_by (length (candidates n ks r w')) + k
unfolding dimension
d_within n ks r w w' k h h' l =
    let cs : List (List Bool) = candidates n ks r w in
    let cs' : List (List Bool) = candidates n ks r w' in
    let p : length cs ≡ 2 ^ dimension cs = dimension-is n ks r w h in
    let p' : length cs' * 2 ^ k ≡ 2 ^ (dimension cs' + k) = ap (λ (t : ℕ). t * 2 ^ k) (dimension-is n ks r w' h') ∙ sym (pow-add 2 (dimension cs') k) in
    rw (some_d (length cs) h, some_d (length cs') h') (pow_back (dimension cs) (dimension cs' + k) (omega (arith, l, p, p')))

-- ---- a verdict's numbers and strips

module _ (n : ℕ) (ks : List Rule) (r : ℕ) (w : List ℕ) (g m : ℕ) (out : List ℕ) where
  abbrev found : List (List Bool)
  found = candidates n ks r w

  abbrev told : Reply
  told = verdict n g m found out

  code_told : code_of (numbers told) ≡ code_by (length found)
  code_told = at 0 (verdict_numbers n g m out found)

  d_told : d_of (numbers told) ≡ d_by (length found)
  d_told = at 4 (verdict_numbers n g m out found)

  some_told : code_of (numbers told) ≤ 1 → 0 < length found
  some_told p = code-small (length found) (rw code_told at p)

  module _ (h : 0 < length found) where
    whole_told : take (3 * 2 ^ n) told.bytes ≡ strips n found
    whole_told = ap (take (3 * 2 ^ n)) (verdict_shown n g m out found h) ∙ strips-whole n found h (candidate_long n ks r w) (drop (length (strips n found)) out)

    first_told : strip n 1 told.bytes ≡ first found
    first_told =
        let one : 1 * 2 ^ n ≡ 2 ^ n = omega arith in
        ap (λ (k : ℕ). take (2 ^ n) (drop k told.bytes)) one ∙ ap (λ (b : List ℕ). take (2 ^ n) (drop (2 ^ n) b)) (verdict_shown n g m out found h)
        ∙ strips-first n found h (candidate_long n ks r w) (drop (length (strips n found)) out)

    last_told : strip n 2 told.bytes ≡ last found
    last_told = ap (strip n 2) (verdict_shown n g m out found h) ∙ strips-last n found h (candidate_long n ks r w) (drop (length (strips n found)) out)

    settled_told : (j : ℕ) → j < 2 ^ n → get_or told.bytes j 0 ≡ settled_at found j
    settled_told = verdict-settled n g m out found h

-- ---- the two replies

-- over replies
abbrev Known : ℕ → List ℕ → List ℕ → Reply → Reply → Type 0
Known n w w' t t' = MoreKnown n w w' (numbers t) t.bytes (numbers t') t'.bytes

-- neither is over the ceiling
module _ (n : ℕ) (ks : List Rule) (r : ℕ) (w w' : List ℕ) (f : filled_in w w' ≡ true) (lk : length ks ≡ 2 ^ n) (lw : length w ≡ 2 ^ n) (out out' : List ℕ) where
  abbrev g₁ : ℕ
  g₁ = unknowns n ks w

  abbrev g₂ : ℕ
  g₂ = unknowns n ks w'

  abbrev m₁ : ℕ
  m₁ = equations n ks r w

  abbrev m₂ : ℕ
  m₂ = equations n ks r w'

  abbrev cs₁ : List (List Bool)
  cs₁ = candidates n ks r w

  abbrev cs₂ : List (List Bool)
  cs₂ = candidates n ks r w'

  abbrev t₁ : Reply
  t₁ = verdict n g₁ m₁ cs₁ out

  abbrev t₂ : Reply
  t₂ = verdict n g₂ m₂ cs₂ out'

  some₁ : code_of (numbers t₁) ≤ 1 → 0 < length cs₁
  some₁ = some_told n ks r w g₁ m₁ out

  some₂ : code_of (numbers t₂) ≤ 1 → 0 < length cs₂
  some₂ = some_told n ks r w' g₂ m₂ out'

  -- the place that a smaller list shows
  open_fetched : 0 < length cs₂ → length cs₂ < length cs₁ → OpenFetched n w w' t₁.bytes
  open_fetched h k =
      let (j, l, p, q, z) = fewer_by_fetching n ks r w w' f lw h k in
      (j, l, p, q, settled_told n ks r w g₁ m₁ out (omega arith) j l ∙ z)

  -- the same list, the same code, d and strips
  same_told : cs₂ ≡ cs₁ → 0 < length cs₁ → (code_of (numbers t₂) ≡ code_of (numbers t₁)) × (d_of (numbers t₂) ≡ d_of (numbers t₁)) × (take (3 * 2 ^ n) t₂.bytes ≡ take (3 * 2 ^ n) t₁.bytes)
  same_told e h = (
    code_told n ks r w' g₂ m₂ out' ∙ ap (λ (l : List (List Bool)). code_by (length l)) e ∙ sym (code_told n ks r w g₁ m₁ out),
    d_told n ks r w' g₂ m₂ out' ∙ ap (λ (l : List (List Bool)). d_by (length l)) e ∙ sym (d_told n ks r w g₁ m₁ out),
    whole_told n ks r w' g₂ m₂ out' (rw e h) ∙ ap (strips n) e ∙ sym (whole_told n ks r w g₁ m₁ out h),
  )

  both_told : Known n w w' t₁ t₂
  both_told =
      let a₁ = verdict_numbers n g₁ m₁ out cs₁ in
      let a₂ = verdict_numbers n g₂ m₂ out' cs₂ in
      let no_more : length cs₂ ≤ length cs₁ = fewer n ks r w w' f in
      record {
        stays_under = λ h p. code-not_18 (length cs₂) (sym (at 0 a₂) ∙ p);
        unknowns = rw (at 2 a₁, at 2 a₂) (fewer_unknowns n ks w w' f);
        unknowns_each = rw (at 2 a₁, at 2 a₂) (unknowns_each n ks w w' f lk lw);
        equations = λ h. (rw (at 3 a₁, at 3 a₂) (more_equations n ks w w' f r), rw (at 3 a₂, at 2 a₁, at 3 a₁, at 2 a₂) (counts-moved n ks w w' f r lk lw));
        stays_inconsistent = λ p.
            let e : length cs₂ ≡ 0 = omega (arith, code-none (length cs₁) (sym (at 0 a₁) ∙ p)) in
            at 0 a₂ ∙ ap code_by e;
        dimension = λ p q. rw (at 4 a₁, at 4 a₂) (omega (arith, d_within n ks r w' w 0 (some₂ q) (some₁ p) (omega arith)));
        dimension_each = λ p q. rw (at 4 a₁, at 4 a₂) (d_within n ks r w w' (fetched w w') (some₁ p) (some₂ q) (halved_all n ks r w w' f lw (some₂ q)));
        stays_settled = λ p q j l h.
            let z₁ = settled_told n ks r w g₁ m₁ out (some₁ p) j l in
            let z₂ = settled_told n ks r w' g₂ m₂ out' (some₂ q) j l in
            z₂ ∙ settled-kept n ks r w w' f (some₂ q) j (λ z. h (z₁ ∙ z)) ∙ sym z₁;
        narrows = λ p q.
            rw (first_told n ks r w g₁ m₁ out (some₁ p), first_told n ks r w' g₂ m₂ out' (some₂ q), last_told n ks r w g₁ m₁ out (some₁ p), last_told n ks r w' g₂ m₂ out' (some₂ q))
            (narrowed n ks r w w' f (some₂ q));
        lower_by_fetching = λ p q l.
            open_fetched (some₂ q) (⊎_elim
            (λ (k : length cs₁ ≤ length cs₂).
            let e : length cs₁ ≡ length cs₂ = omega arith in
            absurd (omega (arith, l, at 4 a₁, at 4 a₂, ap d_by e)))
            (λ k. k)
            (le_or_lt (length cs₁) (length cs₂)));
        unique_by_fetching = λ p q.
            let one : length cs₂ ≡ 1 = code_one (length cs₂) (sym (at 0 a₂) ∙ q) in
            open_fetched (omega arith) (omega (arith, one, (code_more (length cs₁) (sym (at 0 a₁) ∙ p)).0));
        contradicted = λ p j l h k u.
            let z = settled_told n ks r w g₁ m₁ out (some₁ p) j l in
            ⊎_elim
            (λ (q : length cs₂ ≤ 0). at 0 a₂ ∙ ap code_by (let e : length cs₂ ≡ 0 = omega arith in e))
            (λ q. absurd (u (as_settled n ks r w w' f lw j l (λ e. h (z ∙ e)) k q ∙ sym z)))
            (le_or_lt (length cs₂) 0);
        nothing-new = λ p h.
            let k = some₁ p in
            same_told (all_left n ks r w w' f lw (λ j l u v. h j l u v ∙ settled_told n ks r w g₁ m₁ out k j l)) k;
        stays_unique = λ p.
            let one : length cs₁ ≡ 1 = code_one (length cs₁) (sym (at 0 a₁) ∙ p) in
            ⊎_elim
            (λ (k : length cs₂ ≤ 0). inl (at 0 a₂ ∙ ap code_by (let e : length cs₂ ≡ 0 = omega arith in e)))
            (λ k. let t = same_told (sub-whole (among n ks r w w' f) (omega arith)) (omega arith) in inr (t.0 ∙ p, t.2))
            (le_or_lt (length cs₂) 0);
      }

module _ (n : ℕ) (s : List ℕ) (r c : ℕ) (w w' : List ℕ) (f : filled_in w w' ≡ true) (out out' : List ℕ) where
  abbrev reply₁ : Reply
  reply₁ = decoding n s r c w out

  abbrev reply₂ : Reply
  reply₂ = decoding n s r c w' out'

  module _ (ok : formed (numbers reply₁) ≡ true) (ok' : formed (numbers reply₂) ≡ true) where
    abbrev k₁ : ℕ
    k₁ = unknowns n (rules n s) w

    -- the first is over
    over_told : Known n w w' (leaving out (TooMany k₁)) reply₂
    over_told = record {
      stays_under = λ h. absurd (h refl);
      unknowns = rw (g_answered n s r c w' out' ok') (fewer_unknowns n (rules n s) w w' f);
      unknowns_each = rw (g_answered n s r c w' out' ok') (unknowns_each n (rules n s) w w' f (length-rules n s) (word_long n s r c w out ok));
      equations = λ h. absurd (h refl);
      stays_inconsistent = λ p. absurd (omega arith);
      dimension = λ p. absurd (omega arith);
      dimension_each = λ p. absurd (omega arith);
      stays_settled = λ p. absurd (omega arith);
      narrows = λ p. absurd (omega arith);
      lower_by_fetching = λ p. absurd (omega arith);
      unique_by_fetching = λ p. absurd (omega arith);
      contradicted = λ p. absurd (omega arith);
      nothing-new = λ p. absurd (omega arith);
      stays_unique = λ p. absurd (omega arith);
    }

    pub more_known : Known n w w' reply₁ reply₂
    more_known = go (ltb c k₁) refl
      where
        go : (b : Bool) → ltb c k₁ ≡ b → Known n w w' reply₁ reply₂
        go true e = rw (over n s r c w out (formed-none n s r c w out ok) (ltb-true c k₁ e)) over_told
        go false e =
            rw (under n s r c w out (formed-none n s r c w out ok) (ltb-false c k₁ e), under n s r c w' out' (formed-none n s r c w' out' ok') (omega (arith, ltb-false c k₁ e, fewer_unknowns n (rules n s) w w' f)))
            (both_told n (rules n s) r w w' f (length-rules n s) (word_long n s r c w out ok) out out')
