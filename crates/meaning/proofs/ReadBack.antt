-- Encoding and read-back, of the definitions that their promises cite, and the round trip.
--     whole            a word with nothing erased: itself, if it is a codeword, and else no candidate
--     encode_is        what encoding gives where nothing is refused
--     read_is          what read-back gives where nothing is refused: 0 exactly on codewords
--     word_none        bits of the right number, with room, are not refused
--     encoded-none     encoding that answers Done was refused by nothing
--     round_trip       what encoding wrote, read-back gives back; round_trip_promised, of any results that the two promises allow
use mathlib.Core.Path.{◌≡◌, refl, sym, ap, ◌∙◌}
use Prim.Native.Nat.{ℕ, suc, ◌≤◌, ◌+◌, ◌-◌, ◌^◌}
use native.Mathlib.Omega.{arith}
use native.Mathlib.Nat.{suc_inj}
use mathlib.Core.Bool.{Bool, true, false, false≢true, true≢false}
use mathlib.Core.List.Memᴰ
use mathlib.Core.List.{List, [], ◌∷◌, ◌++◌, map, Memᴰ}
use lib.Dec.{ltb}
use lib.Seq.{take_at}
use lib.ListN.{take, drop, length, length-map}
use borrow.Author.Tests.{eq-eqb, le-ltb}
use Rattle.bits.specs.Vectors.{first_place, bit, pick, keep}
use Rattle.meaning.specs.Transform.{polar}
use Rattle.meaning.specs.Sheet.{Rule, rules, frees}
use Rattle.meaning.specs.Check.{free_bits, keeps}
use Rattle.meaning.specs.Codewords.{agrees, candidates, payload_of, carrying}
use Rattle.meaning.specs.Payload.{encoded}
use Rattle.meaning.specs.Strips.{first}
use Rattle.meaning.specs.Answers.{Reply, refuses, sheet_refusals, word_refusals, encode_refusals, read_refusals, is_one, is_done, reply, leaving, writing, encoding, payload_read, reading_back}
use Rattle.meaning.specs.declared.Answer.{Answer}
use Rattle.meaning.specs.declared.Answer.TheVariants.{Done, Inconsistent}
use Rattle.meaning.proofs.Polar.{length-polar, polar-polar}
use Rattle.meaning.proofs.Sound.{length-rules}
use Rattle.meaning.proofs.Candidates.{earlier_unique, candidates_rise, candidate_iff}
use Rattle.meaning.proofs.Encode.{encoded-keeps, carrying_one}
use Rattle.meaning.proofs.Refusals.{first-none, none_append, both-none, done_none}
use Rattle.meaning.proofs.Forms.{Good, good, Worded, worded, bits_back}

-- ---- a word with nothing erased

agrees_self : (x : List Bool) → agrees (map bit x) x ≡ true
agrees_self [] = refl
agrees_self (true ∷ x) = agrees_self x
agrees_self (false ∷ x) = agrees_self x

agrees-same : (x y : List Bool) → length x ≡ length y → agrees (map bit x) y ≡ true → y ≡ x
agrees-same [] [] l h = refl
agrees-same [] (b ∷ y) l h = absurd (omega arith)
agrees-same (a ∷ x) [] l h = absurd (omega arith)
agrees-same (true ∷ x) (true ∷ y) l h = ap {B = List Bool} (λ t. true ∷ t) (agrees-same x y (suc_inj l) h)
agrees-same (true ∷ x) (false ∷ y) l h = absurd (false≢true h)
agrees-same (false ∷ x) (true ∷ y) l h = absurd (false≢true h)
agrees-same (false ∷ x) (false ∷ y) l h = ap {B = List Bool} (λ t. false ∷ t) (agrees-same x y (suc_inj l) h)

module _ (n : ℕ) (ks : List Rule) (r : ℕ) where
  pub whole : (x : List Bool) → length x ≡ 2 ^ n → candidates n ks r (map bit x) ≡ keep (keeps ks r (polar n x)) x []
  whole x l = go (keeps ks r (polar n x)) refl
    where
      it : (y : List Bool) → Memᴰ y (candidates n ks r (map bit x)) → (y ≡ x) × (keeps ks r (polar n x) ≡ true)
      it y m =
          let ((ly, k), a) = (candidate_iff n ks r (map bit x) y).0 m in
          let e : y ≡ x = agrees-same x y (l ∙ sym ly) a in
          (e, ap (λ (t : List Bool). keeps ks r (polar n t)) (sym e) ∙ k)

      go : (b : Bool) → keeps ks r (polar n x) ≡ b → candidates n ks r (map bit x) ≡ keep b x []
      go true e = earlier_unique n (candidates n ks r (map bit x)) (x ∷ []) (candidates_rise n ks r (map bit x)) (tt, tt)
          (λ y. (λ m. Memᴰ.head (it y m).0, λ m. (candidate_iff n ks r (map bit x) y).1 (rw (Memᴰ.eq_of_singleton m) ((l, e), agrees_self x))))
      go false e = earlier_unique n (candidates n ks r (map bit x)) [] (candidates_rise n ks r (map bit x)) tt
          (λ y. (λ m. absurd (true≢false (sym (it y m).1 ∙ e)), λ m. absurd (Memᴰ.not-nil m)))

-- ---- the calls, where nothing is refused

module _ (n : ℕ) (s : List ℕ) (r : ℕ) where
  abbrev ks : List Rule
  ks = rules n s

  module _ (p out : List ℕ) (ok : refuses (encode_refusals n s r p (length out)) ≡ false) where
    parts : Good n s r × Worded (frees ks - r) 1 (2 ^ n) p (length out)
    unfolding encode_refusals
    parts =
        let (a, b) = none_append (sheet_refusals n s r) (word_refusals (frees ks - r) 1 (2 ^ n) p (length out)) ok in
        (good n s r a, worded (frees ks - r) 1 (2 ^ n) p (length out) b)

    abbrev bits : List Bool
    bits = map is_one p

    size : length bits + r ≡ frees ks
    size = omega (arith, length-map p is_one, parts.0.roomy, parts.1.long)

    one : carrying n ks r bits ≡ polar n (encoded ks r bits) ∷ []
    one = carrying_one n ks r (length-rules n s) parts.0.ordered bits size

    pub encode_is : encoding n s r p out ≡ writing (map bit (polar n (encoded ks r bits))) out Done
    unfolding encoding
    encode_is = first-none (leaving out) (encode_refusals n s r p (length out)) _ ok ∙ ap (λ (cs : List (List Bool)). writing (first cs) out Done) one

  module _ (w out : List ℕ) (ok : refuses (read_refusals n s r w (length out)) ≡ false) where
    read_parts : Good n s r × Worded (2 ^ n) 1 (frees ks - r) w (length out)
    unfolding read_refusals
    read_parts =
        let (a, b) = none_append (sheet_refusals n s r) (word_refusals (2 ^ n) 1 (frees ks - r) w (length out)) ok in
        (good n s r a, worded (2 ^ n) 1 (frees ks - r) w (length out) b)

    abbrev word : List Bool
    word = map is_one w

    pub read_is : reading_back n s r w out ≡ pick (keeps ks r (polar n word)) (writing (map bit (payload_of n ks r word)) out Done) (leaving out (Inconsistent 0 0))
    unfolding reading_back payload_read
    read_is =
        first-none (leaving out) (read_refusals n s r w (length out)) _ ok
        ∙ ap (λ (cs : List (List Bool)). payload_read n ks r cs out) (ap (candidates n ks r) (sym (bits_back w read_parts.1.symbols)) ∙ whole n ks r word (length-map w is_one ∙ read_parts.1.long))
        ∙ go (keeps ks r (polar n word))
      where
        go : (b : Bool) → payload_read n ks r (keep b word []) out ≡ pick b (writing (map bit (payload_of n ks r word)) out Done) (leaving out (Inconsistent 0 0))
        go true = refl
        go false = refl

-- ---- the round trip

pub ones_back : (x : List Bool) → map is_one (map bit x) ≡ x
ones_back [] = refl
ones_back (true ∷ x) = ap {B = List Bool} (λ t. true ∷ t) (ones_back x)
ones_back (false ∷ x) = ap {B = List Bool} (λ t. false ∷ t) (ones_back x)

no_symbol : (top : ℕ) → 1 ≤ top → (x : List Bool) → first_place (ltb top) (map bit x) ≡ length (map bit x)
no_symbol top h [] = refl
no_symbol top h (true ∷ x) = rw (le-ltb top 1 h) (ap suc (no_symbol top h x))
no_symbol top h (false ∷ x) = rw (le-ltb top 0 (omega arith)) (ap suc (no_symbol top h x))

-- bits of the right number, with room, are not refused
pub word_none : (wanted top needed : ℕ) (x : List Bool) (room : ℕ) → 1 ≤ top → length x ≡ wanted → needed ≤ room → refuses (word_refusals wanted top needed (map bit x) room) ≡ false
unfolding word_refusals
word_none wanted top needed x room t l h =
    rw (eq-eqb (length (map bit x)) wanted (length-map x bit ∙ l), le-ltb (first_place (ltb top) (map bit x)) (length (map bit x)) (omega (arith, no_symbol top t x)), le-ltb room needed h)

pub round_trip : (n : ℕ) (s : List ℕ) (r : ℕ) (p out out' : List ℕ) → refuses (encode_refusals n s r p (length out)) ≡ false → frees (rules n s) - r ≤ length out'
    → reading_back n s r (take (2 ^ n) (encoding n s r p out).bytes) out' ≡ writing p out' Done
unfolding encode_refusals read_refusals payload_of
round_trip n s r p out out' ok room =
    let (g, w) = parts n s r p out ok in
    let ks : List Rule = rules n s in
    let b : List Bool = map is_one p in
    let u : List Bool = encoded ks r b in
    let x : List Bool = polar n u in
    let (lu, ku, tu) = encoded-keeps n ks r (length-rules n s) g.ordered b (size n s r p out ok) in
    let lx : length x ≡ 2 ^ n = length-polar n u lu in
    let back : polar n x ≡ u = polar-polar n u lu in
    let wrote : take (2 ^ n) (encoding n s r p out).bytes ≡ map bit x =
    ap (λ (a : Reply). take (2 ^ n) a.bytes) (encode_is n s r p out ok) ∙ take_at (map bit x) (drop (length (map bit x)) out) (2 ^ n) (length-map x bit ∙ lx) in
    let fine : refuses (read_refusals n s r (map bit x) (length out')) ≡ false =
    both-none (sheet_refusals n s r) (word_refusals (2 ^ n) 1 (frees ks - r) (map bit x) (length out'))
    (none_append (sheet_refusals n s r) (word_refusals (frees ks - r) 1 (2 ^ n) p (length out)) ok).0 (word_none (2 ^ n) 1 (frees ks - r) x (length out') (omega arith) lx room) in
    let same : map is_one (map bit x) ≡ x = ones_back x in
    let kept : keeps ks r (polar n (map is_one (map bit x))) ≡ true = ap (λ (t : List Bool). keeps ks r (polar n t)) same ∙ ap (keeps ks r) back ∙ ku in
    let k : frees ks - r ≡ length b = omega (arith, size n s r p out ok) in
    let paid : payload_of n ks r (map is_one (map bit x)) ≡ b =
    ap (λ (t : List Bool). take (frees ks - r) (free_bits ks (polar n t))) same ∙ ap (λ (t : List Bool). take (frees ks - r) (free_bits ks t)) back ∙ ap (λ (m : ℕ). take m (free_bits ks u)) k ∙ tu in
    ap (λ (l : List ℕ). reading_back n s r l out') wrote ∙ read_is n s r (map bit x) out' fine
    ∙ ap (λ (t : Bool). pick t (writing (map bit (payload_of n ks r (map is_one (map bit x)))) out' Done) (leaving out' (Inconsistent 0 0))) kept
    ∙ ap (λ (l : List Bool). writing (map bit l) out' Done) paid
    ∙ ap (λ (l : List ℕ). writing l out' Done) (bits_back p w.symbols)

-- encoding that answers Done was refused by nothing
pub encoded-none : (n : ℕ) (s : List ℕ) (r : ℕ) (p out : List ℕ) → is_done (encoding n s r p out).answer ≡ true → refuses (encode_refusals n s r p (length out)) ≡ false
unfolding encoding encode_refusals sheet_refusals word_refusals
encoded-none n s r p out d = done_none out (encode_refusals n s r p (length out)) _ refl d

pub round_trip_promised : (n : ℕ) (s : List ℕ) (r : ℕ) (p out out' x y : List ℕ) (a b : Answer)
    → reply x a ≡ encoding n s r p out → a ≡ Done
    → leaving y b ≡ reading_back n s r (take (2 ^ n) x) out' → frees (rules n s) - r ≤ length out'
    → (b ≡ Done) × (y ≡ p ++ drop (length p) out')
round_trip_promised n s r p out out' x y a b e d f room =
    let ok : refuses (encode_refusals n s r p (length out)) ≡ false =
    encoded-none n s r p out (ap (λ (t : Reply). is_done t.answer) (sym e) ∙ ap is_done d) in
    let back : leaving y b ≡ writing p out' Done =
    f ∙ ap (λ (t : Reply). reading_back n s r (take (2 ^ n) t.bytes) out') e ∙ round_trip n s r p out out' ok room in
    (ap (λ (t : Reply). t.answer) back, ap (λ (t : Reply). t.bytes) back)
