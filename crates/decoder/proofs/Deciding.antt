-- The faults of form, and decoding where one applies and where none does.
--     fault_call, fault_ceiling, fault-none     the fault of form, test by test
--     decode_refused                            decoding is refused for it
--     form_none, decode-formed                  nothing is refused: what is left to decide
--     passed, formed, roomy                     what is known then
--     over, decided_at, narrow                  the unknowns are counted first
use mathlib.Core.Path.{◌≡◌, refl, sym, ap, ◌∙◌}
use Prim.Native.Nat.{ℕ, ◌+◌, ◌*◌, ◌/◌, ◌^◌, ◌≤◌, ◌<◌}
use native.Mathlib.Omega.{arith}
use mathlib.Core.Bool.{Bool, true, false}
use mathlib.Core.List.{List, [], ◌∷◌}
use lib.ListN.{length}
use lib.Dec.{ltb}
use borrow.Author.Tests.{lt-ltb, le-ltb}
use Rattle.meaning.specs.Limits.{record_bytes, largest_ceiling}
use Rattle.meaning.specs.Sheet.{rules}
use Rattle.meaning.specs.Codewords.{candidates}
use Rattle.meaning.specs.Open.{unknowns, equations}
use Rattle.meaning.specs.Answers.{Refusal, Reply, ◌⇒◌, is_done, refuses, fault, sheet_refusals, word_refusals, call_refusals, form_refusals, decode_refusals, leaving, verdict, decoding}
use Rattle.meaning.specs.declared.Answer.{Answer}
use Rattle.meaning.specs.declared.Answer.TheVariants.{Done, BadCeiling, TooMany}
use Rattle.meaning.specs.declared.Answer.{Answer}
use Rattle.meaning.proofs.Refusals.{tried_done, tried_refused, past_none, both-none}
use Rattle.meaning.proofs.Forms.{form_parts}
use Rattle.sheet.proofs.Calls.{size_is, call_same}
use Rattle.sheet.proofs.Shapes.{shaped_when}
use Rattle.counting.specs.Counting.{counting}
use Rattle.counting.proofs.Lengths.{counting-all}
use Rattle.system.proofs.Testing.{length-checked}
use Rattle.decoder.specs.Deciding.{deciding, Formed}
use Rattle.decoder.specs.Rooms.{most_wide}

-- ---- the fault of form

module _ (n : ℕ) (s : List ℕ) (r c : ℕ) (w : List ℕ) (room : ℕ) where
  -- 11 to 16, and 17
  abbrev call : List Refusal
  call = call_refusals n s r (2 ^ n) 2 (3 * 2 ^ n) w room

  abbrev ceiling : List Refusal
  ceiling = (ltb largest_ceiling c ⇒ BadCeiling) ∷ []

  -- N, in the value that the code has
  module _ (k : ℕ) (ek : k ≡ length s / record_bytes) (a : Answer) (ea : a ≡ fault (call_refusals n s r k 2 (3 * k) w room)) where
    meant : a ≡ fault call
    meant = ea ∙ call_same n s r k 2 (3 * k) w room (2 ^ n) (3 * 2 ^ n) (λ h. let e : k ≡ 2 ^ n = ek ∙ size_is n s r h in (e, ap (λ (j : ℕ). 3 * j) e))

    pub fault_call : is_done a ≡ false → a ≡ fault (form_refusals n s r c w room)
    unfolding form_refusals
    fault_call t = meant ∙ sym (tried_refused (λ (x : Answer). x) call ceiling Done (ap is_done (sym meant) ∙ t))

    past_call : is_done a ≡ true → fault (form_refusals n s r c w room) ≡ fault ceiling
    unfolding form_refusals sheet_refusals word_refusals
    past_call t = past_none (λ (x : Answer). x) call ceiling Done (tried_done call refl (ap is_done (sym meant) ∙ t))

    pub fault_ceiling : is_done a ≡ true → largest_ceiling < c → BadCeiling ≡ fault (form_refusals n s r c w room)
    fault_ceiling t h = sym (past_call t ∙ rw (lt-ltb largest_ceiling c h) refl)

    pub fault-none : is_done a ≡ true → c ≤ largest_ceiling → Done ≡ fault (form_refusals n s r c w room)
    fault-none t h = sym (past_call t ∙ rw (le-ltb largest_ceiling c h) refl)

-- ---- decoding

module _ (n : ℕ) (s : List ℕ) (r c : ℕ) (w out : List ℕ) where
  abbrev F : List Refusal
  F = form_refusals n s r c w (length out)

  abbrev G : ℕ
  G = unknowns n (rules n s) w

  abbrev last : Reply
  last = verdict n G (equations n (rules n s) r w) (candidates n (rules n s) r w) out

  pub form_none : refuses (sheet_refusals n s r) ≡ false → refuses (word_refusals (2 ^ n) 2 (3 * 2 ^ n) w (length out)) ≡ false → c ≤ largest_ceiling → refuses F ≡ false
  unfolding form_refusals
  form_none p q h = both-none (call n s r c w (length out)) _ (both-none (sheet_refusals n s r) _ p q) (rw (le-ltb largest_ceiling c h) refl)

  pub decode-formed : refuses F ≡ false → deciding n s r c w out ≡ decoding n s r c w out
  unfolding deciding decoding decode_refusals
  decode-formed h = sym (past_none (leaving out) F ((ltb c G ⇒ TooMany G) ∷ []) last h)

  pub decode_refused : (a : Answer) → a ≡ fault F → (b : Bool) → b ≡ is_done a → b ≡ false → leaving out a ≡ decoding n s r c w out
  unfolding decoding decode_refusals
  decode_refused a ea b eb t = ap (leaving out) ea ∙ sym (tried_refused (leaving out) F ((ltb c G ⇒ TooMany G) ∷ []) last (ap is_done (sym ea) ∙ sym eb ∙ t))

  -- no fault of form was found
  module _ (done : Done ≡ fault F) where
    passed : refuses F ≡ false
    unfolding form_refusals sheet_refusals word_refusals
    passed = tried_done F refl (ap is_done (sym done))

    pub formed : Formed n s r w
    formed =
        let (g, d, low) = form_parts n s r c w (length out) passed in
        record {
          small = g.small;
          long = g.long;
          ordered = g.ordered;
          check = length-checked g.check;
          symbols = d.long;
        }

    pub roomy : 3 * length w ≤ length out
    roomy = let (g, d, low) = form_parts n s r c w (length out) passed in omega (arith, d.long, d.roomy)

    module _ (g : ℕ) (eg : g ≡ counting n s w) where
      all-counted : g ≡ G
      all-counted = let f = formed in eg ∙ counting-all n s w refl (shaped_when n (length s) (length w) f.small f.long f.symbols)

      pub over : c < g → leaving out (TooMany g) ≡ decoding n s r c w out
      unfolding deciding
      over h = ap (λ (k : ℕ). leaving out (TooMany k)) all-counted ∙ sym (rw (lt-ltb c G (omega (arith, all-counted))) refl) ∙ decode-formed passed

      module _ (h : g ≤ c) where
        -- the ceiling can as well be the number of unknowns
        pub decided_at : (x : Reply) → x ≡ deciding n s r g w out → x ≡ decoding n s r c w out
        unfolding deciding
        decided_at x p =
            let e : deciding n s r g w out ≡ deciding n s r c w out = rw (le-ltb g G (omega (arith, all-counted)), le-ltb c G (omega (arith, all-counted))) refl in
            p ∙ e ∙ decode-formed passed

        -- a word for each 64 unknowns, and one for the constant
        pub narrow : g / 64 + 1 + 1 ≤ most_wide
        unfolding most_wide
        narrow = let (a, d, low) = form_parts n s r c w (length out) passed in omega (arith, h, low)
