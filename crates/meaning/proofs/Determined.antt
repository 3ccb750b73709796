-- What a promise that is one equation allows. x are the bytes of the buffer after the call, a the answer.
--     determined          any two results that equal the definition are equal
--     reply_determined    and so are the answers and every byte of the buffers that a reply is made of
--     encode_refused, read_refused, decode_refused     demand 1: what is refused leaves the buffer as found
--     encode_order, read_order, decode_order           in the fixed order: a row that applies is given where none before it does
--     decode-rows                                      the rows of decoding, one by one
use mathlib.Core.Path.{◌≡◌, refl, sym, ap, ◌∙◌}
use Prim.Native.Nat.{ℕ, ◌*◌, ◌^◌}
use mathlib.Core.Bool.{true, false, not}
use mathlib.Core.List.{List, [], ◌∷◌, ◌++◌}
use lib.ListN.{length}
use lib.Dec.{eqb, ltb}
use Rattle.bits.specs.Vectors.{first_place}
use Rattle.meaning.specs.Limits.{largest_ceiling}
use Rattle.meaning.specs.Sheet.{rules, bad_record, frees}
use Rattle.meaning.specs.Open.{unknowns}
use Rattle.meaning.specs.Answers.{Refusal, ◌⇒◌, Reply, reply, leaving, first_of, refuses, bad_shape, bad_check, sheet_refusals, word_refusals, form_refusals, encode_refusals, read_refusals, decode_refusals, encoding, reading_back, decoding}
use Rattle.meaning.specs.declared.Answer.{Answer}
use Rattle.meaning.specs.declared.Answer.TheVariants.{BadShape, BadRecord, BadCheck, BadLength, BadSymbol, ShortOutput, BadCeiling, TooMany, HoldsNothing}
use Rattle.meaning.proofs.Refusals.{refused_untouched, in_order}

pub determined : {A : Type 0} (x y meant : A) → x ≡ meant → y ≡ meant → x ≡ y
determined x y meant p q = p ∙ sym q

pub reply_determined : (a b : Answer) (out out' : List ℕ) (meant : Reply) → leaving out a ≡ meant → leaving out' b ≡ meant → (a ≡ b) × (out ≡ out')
reply_determined a b out out' meant p q =
    let e : leaving out a ≡ leaving out' b = p ∙ sym q in
    (ap (λ (r : Reply). r.answer) e, ap (λ (r : Reply). r.bytes) e)

-- ---- what is refused

-- a call whose table of refusals has the row t behind rows that do not apply
row-given : (out x : List ℕ) (a : Answer) (ts before after : List Refusal) (t : Refusal) (z : Reply) → reply x a ≡ first_of (leaving out) ts z
    → ts ≡ before ++ t ∷ after → refuses before ≡ false → t.applies ≡ true → (a ≡ t.answer) × (x ≡ out)
row-given out x a ts before after t z p e h k =
    let q = p ∙ ap (λ (l : List Refusal). first_of (leaving out) l z) e ∙ in_order (leaving out) before after t z h k in
    (ap (λ (r : Reply). r.answer) q, ap (λ (r : Reply). r.bytes) q)

module _ (n : ℕ) (s : List ℕ) (r : ℕ) (w out x : List ℕ) (a : Answer) where
  pub encode_refused : reply x a ≡ encoding n s r w out → refuses (encode_refusals n s r w (length out)) ≡ true → x ≡ out
  unfolding encoding
  encode_refused p h = ap (λ (t : Reply). t.bytes) p ∙ refused_untouched out (encode_refusals n s r w (length out)) _ h

  pub read_refused : reply x a ≡ reading_back n s r w out → refuses (read_refusals n s r w (length out)) ≡ true → x ≡ out
  unfolding reading_back
  read_refused p h = ap (λ (t : Reply). t.bytes) p ∙ refused_untouched out (read_refusals n s r w (length out)) _ h

  pub decode_refused : (c : ℕ) → reply x a ≡ decoding n s r c w out → refuses (decode_refusals n s r c w (length out)) ≡ true → x ≡ out
  unfolding decoding
  decode_refused c p h = ap (λ (t : Reply). t.bytes) p ∙ refused_untouched out (decode_refusals n s r c w (length out)) _ h

  -- the fixed order
  module _ (before after : List Refusal) (t : Refusal) (none : refuses before ≡ false) (this : t.applies ≡ true) where
    pub encode_order : reply x a ≡ encoding n s r w out → encode_refusals n s r w (length out) ≡ before ++ t ∷ after → (a ≡ t.answer) × (x ≡ out)
    unfolding encoding
    encode_order p e = row-given out x a _ before after t _ p e none this

    pub read_order : reply x a ≡ reading_back n s r w out → read_refusals n s r w (length out) ≡ before ++ t ∷ after → (a ≡ t.answer) × (x ≡ out)
    unfolding reading_back
    read_order p e = row-given out x a _ before after t _ p e none this

    pub decode_order : (c : ℕ) → reply x a ≡ decoding n s r c w out → decode_refusals n s r c w (length out) ≡ before ++ t ∷ after → (a ≡ t.answer) × (x ≡ out)
    unfolding decoding
    decode_order c p e = row-given out x a _ before after t _ p e none this

-- the rows of decoding, one by one
pub decode-rows : (n : ℕ) (s : List ℕ) (r c : ℕ) (w : List ℕ) (room : ℕ)
    → let K = frees (rules n s) in let g = unknowns n (rules n s) w in
    decode_refusals n s r c w room
    ≡ (bad_shape n s ⇒ BadShape)
    ∷ (ltb (bad_record n s) (2 ^ n) ⇒ BadRecord (bad_record n s))
    ∷ (eqb K 0 ⇒ HoldsNothing)
    ∷ (bad_check r K ⇒ BadCheck)
    ∷ (not (eqb (length w) (2 ^ n)) ⇒ BadLength)
    ∷ (ltb (first_place (ltb 2) w) (length w) ⇒ BadSymbol (first_place (ltb 2) w))
    ∷ (ltb room (3 * 2 ^ n) ⇒ ShortOutput)
    ∷ (ltb largest_ceiling c ⇒ BadCeiling)
    ∷ (ltb c g ⇒ TooMany g)
    ∷ []
unfolding decode_refusals form_refusals sheet_refusals word_refusals
decode-rows n s r c w room = refl
