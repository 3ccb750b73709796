-- A codeword with nothing lost, and what encode wrote.
--     whole_word        decodes to unique, itself in all three strips
--     encode_decode     what encode wrote, decode gives back: of any results that the two promises allow
use mathlib.Core.Path.{◌≡◌, refl, sym, ap, ap₂, ◌∙◌}
use Prim.Native.Nat.{ℕ, ◌+◌, ◌-◌, ◌*◌, ◌^◌, ◌≤◌}
use native.Mathlib.Omega.{arith}
use mathlib.Core.Bool.{Bool, true, false}
use mathlib.Core.List.{List, [], ◌∷◌, ◌++◌, map}
use lib.ListN.{length, take, drop, length-map}
use lib.Seq.{take_at}
use lib.Dec.{ltb}
use borrow.Author.Tests.{le-ltb}
use Rattle.bits.specs.Vectors.{bit, pick, keep, tab}
use Rattle.meaning.specs.Limits.{largest_ceiling}
use Rattle.meaning.specs.Transform.{polar}
use Rattle.meaning.specs.Sheet.{Rule, rules, frees}
use Rattle.meaning.specs.Check.{keeps}
use Rattle.meaning.specs.Codewords.{candidates}
use Rattle.meaning.specs.Open.{equations}
use Rattle.meaning.specs.Strips.{settled_at, settled, strips}
use Rattle.meaning.specs.Payload.{encoded}
use Rattle.meaning.specs.Answers.{Reply, refuses, is_done, is_one, sheet_refusals, word_refusals, encode_refusals, leaving, writing, verdict, encoding, decoding}
use Rattle.meaning.specs.declared.Answer.{Answer}
use Rattle.meaning.specs.declared.Answer.TheVariants.{Done, Unique, TooMany}
use Rattle.meaning.proofs.Polar.{length-polar, polar-polar}
use Rattle.meaning.proofs.Sound.{length-rules}
use Rattle.meaning.proofs.Gap.{nothing-lost}
use Rattle.meaning.proofs.Encode.{encoded-keeps}
use Rattle.meaning.proofs.Refusals.{none_append}
use Rattle.meaning.proofs.Forms.{good, worded}
use Rattle.meaning.proofs.ReadBack.{whole, encode_is, word_none, encoded-none}
use Rattle.decoder.specs.Deciding.{deciding}
use Rattle.decoder.proofs.Deciding.{form_none, decode-formed}

-- one candidate is settled everywhere
settled_one : (x : List Bool) → tab (length x) (settled_at (x ∷ [])) ≡ map bit x
settled_one [] = refl
settled_one (true ∷ x) = ap {B = List ℕ} (λ t. 1 ∷ t) (settled_one x)
settled_one (false ∷ x) = ap {B = List ℕ} (λ t. 0 ∷ t) (settled_one x)

module _ (n : ℕ) (s : List ℕ) (r c : ℕ) (out : List ℕ) (x : List Bool) (lx : length x ≡ 2 ^ n) (k : keeps (rules n s) r (polar n x) ≡ true)
    (ok : refuses (sheet_refusals n s r) ≡ false) (room : 3 * 2 ^ n ≤ length out) (low : c ≤ largest_ceiling) where
  abbrev w : List ℕ
  w = map bit x

  abbrev m : ℕ
  m = equations n (rules n s) r w

  word_fine : refuses (word_refusals (2 ^ n) 2 (3 * 2 ^ n) w (length out)) ≡ false
  word_fine = word_none (2 ^ n) 2 (3 * 2 ^ n) x (length out) (omega arith) lx room

  itself : candidates n (rules n s) r w ≡ x ∷ []
  itself = whole n (rules n s) r x lx ∙ ap (λ (b : Bool). keep b x []) k

  three_times : strips n (x ∷ []) ≡ w ++ w ++ w
  unfolding strips settled
  three_times = ap (λ (t : List ℕ). t ++ w ++ w) (ap (λ (j : ℕ). tab j (settled_at (x ∷ []))) (sym lx) ∙ settled_one x)

  decoded-whole : decoding n s r c w out ≡ writing (w ++ w ++ w) out (Unique 0 m)
  unfolding deciding verdict
  decoded-whole =
      sym (decode-formed n s r c w out (form_none n s r c w out ok word_fine low))
      ∙ ap₂ (λ (g : ℕ) (cs : List (List Bool)). pick (ltb c g) (leaving out (TooMany g)) (verdict n g m cs out)) (nothing-lost n (rules n s) x lx) itself
      ∙ ap (λ (b : Bool). pick b (leaving out (TooMany 0)) (verdict n 0 m (x ∷ []) out)) (le-ltb c 0 (omega arith))
      ∙ ap (λ (t : List ℕ). writing t out (Unique 0 m)) three_times

  pub whole_word : (y : List ℕ) (a : Answer) → leaving y a ≡ decoding n s r c w out → (a ≡ Unique 0 m) × (y ≡ (w ++ w ++ w) ++ drop (length (w ++ w ++ w)) out)
  whole_word y a p = (ap (λ (t : Reply). t.answer) (p ∙ decoded-whole), ap (λ (t : Reply). t.bytes) (p ∙ decoded-whole))

-- ---- what encode wrote

module _ (n : ℕ) (s : List ℕ) (r c : ℕ) (p out out' y z : List ℕ) (a b : Answer) (e : leaving y a ≡ encoding n s r p out) (d : a ≡ Done)
    (f : leaving z b ≡ decoding n s r c (take (2 ^ n) y) out') (room : 3 * 2 ^ n ≤ length out') (low : c ≤ largest_ceiling) where
  abbrev ks : List Rule
  ks = rules n s

  abbrev bits : List Bool
  bits = map is_one p

  -- the codeword
  abbrev word : List ℕ
  word = map bit (polar n (encoded ks r bits))

  fine : refuses (encode_refusals n s r p (length out)) ≡ false
  fine = encoded-none n s r p out (ap (λ (t : Reply). is_done t.answer) (sym e) ∙ ap is_done d)

  pub encode_decode : (b ≡ Unique 0 (equations n ks r word)) × (z ≡ (word ++ word ++ word) ++ drop (length (word ++ word ++ word)) out')
  unfolding encode_refusals
  encode_decode =
      let (ns, nw) = none_append (sheet_refusals n s r) (word_refusals (frees ks - r) 1 (2 ^ n) p (length out)) fine in
      let g = good n s r ns in
      let l = worded (frees ks - r) 1 (2 ^ n) p (length out) nw in
      let size : length bits + r ≡ frees ks = omega (arith, length-map p is_one, g.roomy, l.long) in
      let u : List Bool = encoded ks r bits in
      let (lu, ku, tu) = encoded-keeps n ks r (length-rules n s) g.ordered bits size in
      let lx : length (polar n u) ≡ 2 ^ n = length-polar n u lu in
      let wrote : take (2 ^ n) y ≡ word =
      ap (λ (t : Reply). take (2 ^ n) t.bytes) (e ∙ encode_is n s r p out fine) ∙ take_at word (drop (length word) out) (2 ^ n) (length-map (polar n u) bit ∙ lx) in
      whole_word n s r c out' (polar n u) lx (ap (keeps ks r) (polar-polar n u lu) ∙ ku) ns room low z b (f ∙ ap (λ (t : List ℕ). decoding n s r c t out') wrote)
