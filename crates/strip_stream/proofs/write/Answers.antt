use mathlib.Core.Path.{refl}
use Rattle.stream.proofs.Agreeing.{agreed_terms}
use Rattle.strip_stream.proofs.Cases.{alone, right}
use Rattle.strip_stream.proofs.Writing.{alone_room, alone_records, alone_repaired, each_room, each_records, each_repaired}
use Rattle.strip_stream.proofs.write.Goals as goal

pub each-requires : goal.each-requires
each-requires c =
    let A = c.args in
    let a = agreed_terms A.sheet.now A.choice.now c.in-Ok.t c.in-Ok.ensures in
    record { n_le_largest_n = a.small; n_in_bounds = each_room (right A.sheet.now A.choice.now A.lost.now A.input.now (rw (← a.n-is) a.small) a.two) _ _ a.n-is refl _ _ c.requires.0 c.requires.1 }

pub put-requires : goal.put-requires
put-requires c =
    let A = c.args in
    alone_room (alone A.sheet.now A.choice.now A.lost.now A.input.now c.in-Err.e c.in-Err.ensures) _ c.requires.0

pub returns-in-Ok : goal.returns-in-Ok
returns-in-Ok c =
    let A = c.args in
    let a = agreed_terms A.sheet.now A.choice.now c.in-Ok.t c.in-Ok.ensures in
    let p = right A.sheet.now A.choice.now A.lost.now A.input.now (rw (← a.n-is) a.small) a.two in
    record {
      repaired_after = each_repaired p _ _ a.n-is refl A.repaired.now _ (rw (a.r-is, a.ceiling-is) at c.each.ensures.repaired_after);
      records_after = each_records p _ _ a.n-is refl A.records.now _ (rw (a.r-is, a.ceiling-is) at c.each.ensures.records_after);
    }

pub returns-in-Err : goal.returns-in-Err
returns-in-Err c =
    let A = c.args in
    let p = alone A.sheet.now A.choice.now A.lost.now A.input.now c.in-Err.e c.in-Err.ensures in
    record { repaired_after = alone_repaired p A.repaired.now; records_after = alone_records p A.records.now _ (rw c.from.ensures at c.put.ensures) }
