-- What follows from the promise of `convert`: of any answer a, and bytes x of the output after the call.
--     convert_determined     any two results that the promise allows are equal
--     convert_refused, convert_done     what is refused leaves the output as found, and what is not is answered 0
--     given, roomy, new-fits     where it answers 0, an old sheet was given, and room for the new one
--     Converted, convert_same     and the output starts with a sheet that is the same code
--     convert_rest           and later bytes stay
use mathlib.Core.Path.{◌≡◌, refl, sym, ap, ◌∙◌}
use Prim.Native.Nat.{ℕ, ◌*◌, ◌/◌, ◌^◌, ◌≤◌}
use native.Mathlib.Omega.{arith}
use native.Mathlib.Nat.{div-eq_of_eq-mul_left}
use mathlib.Core.Bool.{Bool, true, false}
use mathlib.Core.List.{List, ◌++◌}
use lib.ListN.{length, take, drop}
use lib.Seq.{take_at, drop_at}
use lib.Dec.{ltb}
use borrow.Author.Tests.{ltb-false, eqb-true, not-false}
use Rattle.bits.proofs.Tests.{or_false_l, or_false_r}
use Rattle.meaning.specs.Limits.{layout, old_layout, record_bytes, old_largest_n, old_record_bytes}
use Rattle.meaning.specs.Sheet.{Rule, rules, rules_in, bad_in, frees}
use Rattle.meaning.specs.Codewords.{codewords, candidates, payload_of}
use Rattle.meaning.specs.Open.{unknowns, equations}
use Rattle.meaning.specs.Answers.{Reply, is_done, refuses, bad_shape_in, checking, checking_in, reply, leaving}
use Rattle.meaning.specs.declared.Answer.{Answer}
use Rattle.meaning.specs.declared.Answer.TheVariants.{Done}
use Rattle.meaning.proofs.Layouts.{rules_today, checking_today}
use Rattle.meaning.proofs.Refusals.{done_none, first-none, refused_untouched}
use Rattle.meaning.proofs.Determined.{reply_determined}
use Rattle.sheet_convert.specs.Conversion.{widened, convert_refusals, converting, Old}
use Rattle.sheet_convert.proofs.Widening.{wider, new-long}
use Rattle.sheet_convert.proofs.Same.{same-frees, same_code, same_payload, same_agreeing, same-unknowns, same-equations, same_check}

-- `sheet` is the code that `old` was
pub record Converted (n : ℕ) (old sheet : List ℕ) : Type 0 where
  -- the same codewords in the same order, with any r
  pub code : (r : ℕ) → codewords n (rules n sheet) r ≡ codewords n (rules_in old_layout n old) r
  -- the same K
  pub count : frees (rules n sheet) ≡ frees (rules_in old_layout n old)
  -- the same payload of every codeword
  pub payload : (r : ℕ) (x : List Bool) → payload_of n (rules n sheet) r x ≡ payload_of n (rules_in old_layout n old) r x
  -- of any word, the same agreeing codewords, the same g and the same m
  pub agreeing : (w : List ℕ) (r : ℕ) → candidates n (rules n sheet) r w ≡ candidates n (rules_in old_layout n old) r w
  pub g : (w : List ℕ) → unknowns n (rules n sheet) w ≡ unknowns n (rules_in old_layout n old) w
  pub m : (w : List ℕ) (r : ℕ) → equations n (rules n sheet) r w ≡ equations n (rules_in old_layout n old) r w
  -- the check says of it, with any r, what the old check says of the old sheet
  pub check : (r : ℕ) → checking n sheet r ≡ checking_in old_layout n old r

pub same : (n : ℕ) (old : List ℕ) → Old n old → Converted n old (widened old_layout layout n old)
same n old o =
    let e = rules_today n (widened old_layout layout n old) in
    record {
      code = λ r. ap (λ (ks : List Rule). codewords n ks r) e ∙ same_code wider n old r;
      count = ap frees e ∙ same-frees wider n old;
      payload = λ r x. ap (λ (ks : List Rule). payload_of n ks r x) e ∙ same_payload wider n old r x;
      agreeing = λ w r. ap (λ (ks : List Rule). candidates n ks r w) e ∙ same_agreeing wider n old w r;
      g = λ w. ap (λ (ks : List Rule). unknowns n ks w) e ∙ same-unknowns wider n old w;
      m = λ w r. ap (λ (ks : List Rule). equations n ks r w) e ∙ same-equations wider n old w r;
      check = λ r. checking_today n (widened old_layout layout n old) r ∙ same_check wider n old o.small o.long r;
    }

module _ (n : ℕ) (old out x : List ℕ) (a : Answer) (p : reply x a ≡ converting n old out) where
  pub convert_determined : (x' : List ℕ) (a' : Answer) → reply x' a' ≡ converting n old out → (a ≡ a') × (x ≡ x')
  convert_determined x' a' q = reply_determined a a' x x' (converting n old out) p q

  pub convert_refused : refuses (convert_refusals n old (length out)) ≡ true → x ≡ out
  unfolding converting
  convert_refused h = ap (λ (t : Reply). t.bytes) p ∙ refused_untouched out (convert_refusals n old (length out)) _ h

  pub convert_done : refuses (convert_refusals n old (length out)) ≡ false → a ≡ Done
  unfolding converting
  convert_done h = ap (λ (t : Reply). t.answer) (p ∙ first-none (leaving out) (convert_refusals n old (length out)) _ h)

  -- where it answers 0
  module _ (d : is_done a ≡ true) where
    none : refuses (convert_refusals n old (length out)) ≡ false
    unfolding converting convert_refusals
    none = done_none out (convert_refusals n old (length out)) _ refl (ap (λ (t : Reply). is_done t.answer) (sym p) ∙ d)

    -- an old sheet of N records was given
    pub given : Old n old
    unfolding convert_refusals
    given =
        let shape = or_false_l (bad_shape_in old_layout n old) _ none in
        record {
          small = ltb-false old_largest_n n (or_false_l (ltb old_largest_n n) _ shape);
          long = eqb-true (length old) (2 ^ n * old_record_bytes) (not-false _ (or_false_r (ltb old_largest_n n) _ shape));
        }

    -- and there was room
    pub roomy : 2 ^ n * record_bytes ≤ length out
    unfolding convert_refusals
    roomy =
        let rest = or_false_r (bad_shape_in old_layout n old) _ none in
        ltb-false (length out) (2 ^ n * record_bytes) (or_false_l (ltb (length out) (2 ^ n * record_bytes)) _ (or_false_r (ltb (bad_in old_layout n old) (2 ^ n)) _ rest))

    -- for as many records of today's size as were given
    pub new-fits : length old / old_record_bytes * record_bytes ≤ length out
    new-fits = rw (div-eq_of_eq-mul_left {n = old_record_bytes} {m = length old} {k = 2 ^ n} (omega (arith, wider.head)) given.long) roomy

    bytes : x ≡ widened old_layout layout n old ++ drop (length (widened old_layout layout n old)) out
    unfolding converting
    bytes = ap (λ (t : Reply). t.bytes) (p ∙ first-none (leaving out) (convert_refusals n old (length out)) _ none)

    front : take (2 ^ n * record_bytes) x ≡ widened old_layout layout n old
    front = ap (take (2 ^ n * record_bytes)) bytes ∙ take_at (widened old_layout layout n old) _ _ (new-long wider n old)

    pub convert_same : Converted n old (take (2 ^ n * record_bytes) x)
    convert_same = rw front (same n old given)

    pub convert_rest : drop (2 ^ n * record_bytes) x ≡ drop (2 ^ n * record_bytes) out
    convert_rest = ap (drop (2 ^ n * record_bytes)) bytes ∙ drop_at (widened old_layout layout n old) _ _ (new-long wider n old) ∙ ap (λ (k : ℕ). drop k out) (new-long wider n old)
