-- The records and parts of an input, by the lengths of the sheet and the choice.
--     Alone, alone_shape, alone_choice, alone     one record alone, and no part
--     many_refused, unwrapped              how many where there are no terms; a count, or a number in its place
--     Right, right                         a record and a part for each strip
--     reply-long, headers-wide, parts-wide, headers-many, parts-many     how long each is, and how many there are
use mathlib.Core.Path.{◌≡◌, refl, sym, ap, ◌∙◌}
use Prim.Native.Nat.{ℕ, ◌≤◌, ◌<◌}
use native.Mathlib.Omega.{arith}
use mathlib.Core.Bool.{Bool, true, false, not}
use mathlib.Core.List.{List, [], ◌∷◌}
use lib.ListN.{length, replicate, length-replicate}
use lib.Dec.{eqb, ltb}
use lib.Pow.{pow_pos}
use borrow.Author.Tests.{eq-eqb, ne_eqb, lt-ltb, le-ltb}
use Rattle.std.specs.Prelude.{Result, Ok, Err, MatchResult}
use Rattle.std.specs.Result.{result_unwrap_or}
use Rattle.meaning.specs.declared.Refused.{Refused}
use Rattle.meaning.specs.Results.{refusal}
use Rattle.stream.specs.Agreement.{agreement}
use Rattle.stream.proofs.Agreeing.{refused_by}
use Rattle.bits.specs.Vectors.{pick, tab}
use Rattle.bits.specs.Rows.{Wide}
use Rattle.bits.proofs.Tests.{length-tab}
use Rattle.bits.proofs.Records.{wide-tab}
use Rattle.meaning.specs.Limits.{largest_n, head_bytes}
use Rattle.meaning.specs.Stream.{header, n_of, rounded_up}
use Rattle.meaning.specs.declared.Answer.{Answer}
use Rattle.meaning.specs.declared.Answer.TheVariants.{BadShape, BadCheck}
use Rattle.meaning.proofs.Heading.{header-long}
use Rattle.strips.proofs.Kept.{repair_kept}
use Rattle.strip_stream.specs.Strips.{strip_bytes, part_bytes, strip_reply, by_case, reply_at, strip_count, record_count, part_count, headers, parts}

-- ---- by case

module _ {A : Type 0} (s ch : List ℕ) (x y z : A) where
  case_shape : largest_n < n_of s → by_case s ch x y z ≡ x
  case_shape h = rw (lt-ltb largest_n (n_of s) h)

  case_choice : n_of s ≤ largest_n → (length ch ≡ 2 → ⊥) → by_case s ch x y z ≡ y
  case_choice h e = rw (le-ltb largest_n (n_of s) h, ne_eqb (length ch) 2 e)

  case_right : n_of s ≤ largest_n → length ch ≡ 2 → by_case s ch x y z ≡ z
  case_right h e = rw (le-ltb largest_n (n_of s) h, eq-eqb (length ch) 2 e)

  -- a fact of each case is one of all
  case_all : (P : A → Type 0) → P x → P y → P z → P (by_case s ch x y z)
  case_all P p q r = go (ltb largest_n (n_of s)) (not (eqb (length ch) 2))
    where
      go : (b c : Bool) → P (pick b x (pick c y z))
      go true c = p
      go false true = q
      go false false = r

  case_map : {B : Type 0} (f : A → B) → f (by_case s ch x y z) ≡ by_case s ch (f x) (f y) (f z)
  case_map {B} f = go (ltb largest_n (n_of s)) (not (eqb (length ch) 2))
    where
      go : (b c : Bool) → f (pick b x (pick c y z)) ≡ pick b (f x) (pick c (f y) (f z))
      go true c = refl
      go false true = refl
      go false false = refl

pub record Alone (s ch lost input : List ℕ) (a : Answer) : Type 0 where
  pub headed : headers s ch lost input ≡ header a ∷ []
  pub parted : parts s ch lost input ≡ []
  pub one : record_count s ch input ≡ 1
  pub none : part_count s ch input ≡ 0

pub record Right (s ch lost input : List ℕ) : Type 0 where
  pub headed : headers s ch lost input ≡ tab (strip_count s input) (λ (k : ℕ). header (reply_at s ch lost input k).answer)
  pub parted : parts s ch lost input ≡ tab (strip_count s input) (λ (k : ℕ). (reply_at s ch lost input k).bytes)
  pub many : record_count s ch input ≡ strip_count s input
  pub each : part_count s ch input ≡ strip_count s input

module _ (s ch lost input : List ℕ) where
  pub alone_shape : largest_n < n_of s → Alone s ch lost input BadShape
  unfolding headers parts record_count part_count
  alone_shape h = record { headed = case_shape s ch _ _ _ h; parted = case_shape s ch _ _ _ h; one = case_shape s ch _ _ _ h; none = case_shape s ch _ _ _ h }

  module _ (h : n_of s ≤ largest_n) where
    pub alone_choice : (length ch ≡ 2 → ⊥) → Alone s ch lost input BadCheck
    unfolding headers parts record_count part_count
    alone_choice e = record { headed = case_choice s ch _ _ _ h e; parted = case_choice s ch _ _ _ h e; one = case_choice s ch _ _ _ h e; none = case_choice s ch _ _ _ h e }

    pub right : length ch ≡ 2 → Right s ch lost input
    unfolding headers parts record_count part_count
    right e = record { headed = case_right s ch _ _ _ h e; parted = case_right s ch _ _ _ h e; many = case_right s ch _ _ _ h e; each = case_right s ch _ _ _ h e }

  -- one record alone where the sheet and the choice set no terms
  pub alone : (e : Refused) → Err e ≡ agreement s ch → Alone s ch lost input (refusal e)
  alone = refused_by s ch (λ e. Alone s ch lost input (refusal e)) alone_shape alone_choice

-- how many, for the n that the code finds; `alone` where a length is wrong
module _ (s ch input : List ℕ) (alone n : ℕ) (en : n ≡ n_of s) where
  pub many_shape : largest_n < n → alone ≡ by_case s ch alone alone (strip_count s input)
  many_shape h = sym (case_shape s ch alone alone (strip_count s input) (rw (← en) h))

  module _ (h : n ≤ largest_n) where
    pub many_choice : (length ch ≡ 2 → ⊥) → alone ≡ by_case s ch alone alone (strip_count s input)
    many_choice e = sym (case_choice s ch alone alone (strip_count s input) (rw (← en) h) e)

    pub many-right : length ch ≡ 2 → (size k : ℕ) → size ≡ strip_bytes n → k ≡ rounded_up (length input) size → k ≡ by_case s ch alone alone (strip_count s input)
    many-right e size k es ek =
        ek ∙ ap (rounded_up (length input)) (es ∙ ap strip_bytes en) ∙ sym (case_right s ch alone alone (strip_count s input) (rw (← en) h) e)

pub many_refused : (s ch input : List ℕ) (alone : ℕ) (e : Refused) → Err e ≡ agreement s ch → alone ≡ by_case s ch alone alone (strip_count s input)
many_refused s ch input alone = refused_by s ch (λ e. alone ≡ by_case s ch alone alone (strip_count s input)) (many_shape s ch input alone (n_of s) refl) (many_choice s ch input alone (n_of s) refl)

-- a count, or d where there is none
pub unwrapped : (r : Result ℕ Refused) (d m x : ℕ) → MatchResult r (λ k. k ≡ m) (λ e. d ≡ m) → x ≡ result_unwrap_or r d → x ≡ m
unwrapped (Ok k) d m x h e = e ∙ h
unwrapped (Err k) d m x h e = e ∙ h

-- ---- lengths

pub strip-pos : (n : ℕ) → 0 < strip_bytes n
unfolding strip_bytes
strip-pos n = omega (arith, pow_pos n)

pub part-pos : (n : ℕ) → 0 < part_bytes n
unfolding part_bytes
part-pos n = omega (arith, pow_pos n)

pub reply-long : (n : ℕ) (s : List ℕ) (r c : ℕ) (lost strip : List ℕ) → length (strip_reply n s r c lost strip).bytes ≡ part_bytes n
unfolding strip_reply
reply-long n s r c lost strip = repair_kept n s r c strip lost (replicate (part_bytes n) 255) ∙ length-replicate (part_bytes n) 255

module _ (s ch lost input : List ℕ) where
  pub headers-wide : Wide head_bytes (headers s ch lost input)
  unfolding headers
  headers-wide =
      case_all s ch _ _ _ (Wide head_bytes) (header-long BadShape, tt) (header-long BadCheck, tt)
      (wide-tab head_bytes (strip_count s input) (λ (k : ℕ). header (reply_at s ch lost input k).answer) (λ k. header-long (reply_at s ch lost input k).answer))

  pub parts-wide : Wide (part_bytes (n_of s)) (parts s ch lost input)
  unfolding parts
  parts-wide =
      case_all s ch _ _ _ (Wide (part_bytes (n_of s))) tt tt
      (wide-tab (part_bytes (n_of s)) (strip_count s input) (λ (k : ℕ). (reply_at s ch lost input k).bytes) (λ k. reply-long (n_of s) s _ _ lost _))

  pub headers-many : length (headers s ch lost input) ≡ record_count s ch input
  unfolding headers record_count
  headers-many =
      case_map s ch (header BadShape ∷ []) (header BadCheck ∷ []) (tab (strip_count s input) (λ (k : ℕ). header (reply_at s ch lost input k).answer)) length
      ∙ ap (by_case s ch 1 1) (length-tab (strip_count s input) (λ (k : ℕ). header (reply_at s ch lost input k).answer))

  pub parts-many : length (parts s ch lost input) ≡ part_count s ch input
  unfolding parts part_count
  parts-many =
      case_map s ch [] [] (tab (strip_count s input) (λ (k : ℕ). (reply_at s ch lost input k).bytes)) length
      ∙ ap (by_case s ch 0 0) (length-tab (strip_count s input) (λ (k : ℕ). (reply_at s ch lost input k).bytes))
