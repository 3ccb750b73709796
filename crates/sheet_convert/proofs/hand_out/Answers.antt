use mathlib.Core.Path.{◌≡◌, ap}
use Prim.Native.Nat.{ℕ}
use Rattle.meaning.specs.declared.Answer.TheVariants.{BadRecord}
use Rattle.meaning.specs.Results.{done_or_refusal, refusal}
use Rattle.sheet_convert.proofs.Converting.{not_bad, bad, short, copied}
use Rattle.sheet_convert.proofs.hand_out.Goals as goal
use Rattle.sheet_convert.proofs.hand_out.Goals.{in-Err+in_default-e, in_default}

pub returns-in-BadRecord : goal.returns-in-BadRecord
returns-in-BadRecord c =
    let A = c.args in
    bad A.n A.sheet.now A.out.now c.requires _ c.in-Err.ensures c.in-BadRecord.place (ap refusal c.in-BadRecord.is)

pub returns-then-out-sheet : goal.returns-then-out-sheet
returns-then-out-sheet c =
    let A = c.args in
    let passed : (p : ℕ) → done_or_refusal c.check_sheet.result ≡ BadRecord p → ⊥ = elim c.match-check_sheet.branch [ in-Err+in_default-e w ↦ rw w.in-Err.is (not_bad w.in-Err.e w.in_default-e.not-BadRecord) | in_default w ↦ rw w.in_default.is (λ p h. cc) ] in
    short A.n A.sheet.now A.out.now c.requires _ c.check_sheet.ensures passed c.if-out-sheet.true

pub returns : goal.returns
returns c =
    let A = c.args in
    let passed : (p : ℕ) → done_or_refusal c.check_sheet.result ≡ BadRecord p → ⊥ = elim c.match-check_sheet.branch [ in-Err+in_default-e w ↦ rw w.in-Err.is (not_bad w.in-Err.e w.in_default-e.not-BadRecord) | in_default w ↦ rw w.in_default.is (λ p h. cc) ] in
    copied A.n A.sheet.now A.out.now c.requires _ c.check_sheet.ensures passed c.if-out-sheet.false _ c.copy_from_slice.ensures.after
