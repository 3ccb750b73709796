-- The record of a word whose answer leaves the strips untouched: all of them is 255.
--     untouched_record     the numbers of the answer, and blank strips
--     nothing-recorded     with a sheet that holds nothing, each word's record is of code 19
use mathlib.Core.Path.{◌≡◌, refl, ap, ap₂, ◌∙◌}
use Prim.Native.Nat.{ℕ, zero, suc, ◌+◌, ◌-◌, ◌*◌, ◌^◌, ◌≤◌}
use native.Mathlib.Omega.{arith}
use mathlib.Core.Bool.{false}
use mathlib.Core.List.{List, ◌∷◌, ◌++◌, append_assoc}
use lib.ListN.{take, drop, replicate, length-replicate}
use lib.Dec.{ltb}
use Rattle.meaning.specs.Limits.{largest_n, strip_width}
use Rattle.meaning.specs.Sheet.{rules, bad_record, frees}
use Rattle.meaning.specs.Answers.{Reply, bad_shape, leaving, decoding}
use Rattle.meaning.specs.Stream.{header, padded, answer_record, refused_record}
use Rattle.meaning.specs.declared.Answer.{Answer}
use Rattle.meaning.specs.declared.Answer.TheVariants.{HoldsNothing}
use Rattle.meaning.proofs.Holding.{nothing-decoded}
use Rattle.stream.proofs.Laying.{take_blank, drop_blank, word_fits}

abbrev blanks : ℕ → List ℕ
blanks k = replicate k 255

blanks_more : (a b : ℕ) → blanks a ++ blanks b ≡ blanks (a + b)
blanks_more zero b = ap blanks (let e : b ≡ 0 + b = omega arith in e)
blanks_more (suc a) b = ap {B = List ℕ} (λ t. 255 ∷ t) (blanks_more a b) ∙ ap blanks (let e : suc (a + b) ≡ suc a + b = omega arith in e)

blank_strip : (k : ℕ) → k ≤ strip_width → padded (blanks k) ≡ blanks strip_width
blank_strip k h =
    ap (λ (m : ℕ). blanks k ++ blanks (strip_width - m)) (length-replicate {A = ℕ} k 255) ∙ blanks_more k (strip_width - k)
    ∙ ap blanks (let e : k + (strip_width - k) ≡ strip_width = omega arith in e)

-- three blank strips behind a header
behind : (h : List ℕ) → h ++ blanks strip_width ++ blanks strip_width ++ blanks strip_width ≡ h ++ blanks (3 * strip_width)
behind h =
    let W : ℕ = strip_width in
    ap (λ (t : List ℕ). t ++ blanks W) (append_assoc h (blanks W) (blanks W)) ∙ append_assoc h (blanks W ++ blanks W) (blanks W)
    ∙ ap (λ (t : List ℕ). h ++ (t ++ blanks W)) (blanks_more W W)
    ∙ ap (λ (t : List ℕ). h ++ t) (blanks_more (W + W) W ∙ ap blanks (let e : W + W + W ≡ 3 * W = omega arith in e))

pub untouched_record : (n : ℕ) (s : List ℕ) (r c : ℕ) (w : List ℕ) (a : Answer) → n ≤ largest_n
    → decoding n s r c w (replicate (3 * 2 ^ n) 255) ≡ leaving (replicate (3 * 2 ^ n) 255) a → answer_record n s r c w ≡ refused_record a
unfolding answer_record refused_record strip_width
untouched_record n s r c w a h p =
    let N : ℕ = 2 ^ n in
    let low : N ≤ strip_width = word_fits n N h refl in
    let one : padded (take N (blanks (3 * N))) ≡ blanks strip_width = ap padded (take_blank N (3 * N) (omega arith)) ∙ blank_strip N low in
    let two : padded (take N (drop N (blanks (3 * N)))) ≡ blanks strip_width =
    ap (λ (t : List ℕ). padded (take N t)) (drop_blank N (3 * N)) ∙ ap padded (take_blank N (3 * N - N) (omega arith)) ∙ blank_strip N low in
    let three : padded (drop (2 * N) (blanks (3 * N))) ≡ blanks strip_width =
    ap padded (drop_blank (2 * N) (3 * N)) ∙ blank_strip (3 * N - 2 * N) (omega (arith, low)) in
    ap (λ (t : Reply). header t.answer ++ padded (take N t.bytes) ++ padded (take N (drop N t.bytes)) ++ padded (drop (2 * N) t.bytes)) p
    ∙ ap₂ {C = List ℕ} ◌++◌ (ap₂ {C = List ℕ} ◌++◌ (ap (λ (t : List ℕ). header a ++ t) one) two) three
    ∙ behind (header a)

pub nothing-recorded : (n : ℕ) (s : List ℕ) (r c : ℕ) (w : List ℕ) → n ≤ largest_n
    → bad_shape n s ≡ false → ltb (bad_record n s) (2 ^ n) ≡ false → frees (rules n s) ≡ 0 → answer_record n s r c w ≡ refused_record HoldsNothing
nothing-recorded n s r c w h shape sound none = untouched_record n s r c w HoldsNothing h (nothing-decoded n s r shape sound none c w _)
