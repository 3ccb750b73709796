use mathlib.Core.Path.{◌≡◌, sym, ◌∙◌}
use Prim.Native.Nat.{◌*◌}
use mathlib.Core.Bool.{false}
use lib.ListN.{length}
use lib.Dec.{ltb}
use borrow.Author.Tests.{ltb-false}
use Rattle.meaning.specs.Limits.{head_bytes}
use Rattle.meaning.specs.Stream.{n_of}
use Rattle.strip_stream.specs.Strips.{part_bytes, record_count, part_count}
use Rattle.strip_stream.proofs.Writing.{records_short, records_fit_lem, short_records, short_repaired, answered}
use Rattle.strip_stream.proofs.answer.Goals as goal

pub returns-then-records-count : goal.returns-then-records-count
unfolding head_bytes
returns-then-records-count c =
    let A = c.args in
    short_records A.sheet.now A.choice.now A.lost.now A.input.now A.repaired.now A.records.now
    (records_short A.sheet.now A.choice.now A.input.now (length A.records.now) _ c.count.ensures c.if-records-count.true)

pub returns-then-short : goal.returns-then-short
unfolding head_bytes
returns-then-short c =
    let A = c.args in
    let fit : ltb (length A.records.now) (record_count A.sheet.now A.choice.now A.input.now * head_bytes) ≡ false =
    records_fit_lem A.sheet.now A.choice.now A.input.now (length A.records.now) _ c.count.ensures c.if-records-count.false in
    short_repaired A.sheet.now A.choice.now A.lost.now A.input.now A.repaired.now A.records.now fit (sym c.short.ensures ∙ c.if-short.true)

pub write-requires : goal.write-requires
unfolding head_bytes
write-requires c =
    let A = c.args in
    let parts-fit : ltb (length A.repaired.now) (part_count A.sheet.now A.choice.now A.input.now * part_bytes (n_of A.sheet.now)) ≡ false = sym c.short.ensures ∙ c.if-short.false in
    let fit : ltb (length A.records.now) (record_count A.sheet.now A.choice.now A.input.now * head_bytes) ≡ false =
    records_fit_lem A.sheet.now A.choice.now A.input.now (length A.records.now) _ c.count.ensures c.if-records-count.false in
    (ltb-false _ _ fit, ltb-false _ _ parts-fit)

pub returns : goal.returns
unfolding head_bytes
returns c =
    let A = c.args in
    let parts-fit : ltb (length A.repaired.now) (part_count A.sheet.now A.choice.now A.input.now * part_bytes (n_of A.sheet.now)) ≡ false = sym c.short.ensures ∙ c.if-short.false in
    let fit : ltb (length A.records.now) (record_count A.sheet.now A.choice.now A.input.now * head_bytes) ≡ false =
    records_fit_lem A.sheet.now A.choice.now A.input.now (length A.records.now) _ c.count.ensures c.if-records-count.false in
    answered A.sheet.now A.choice.now A.lost.now A.input.now A.repaired.now A.records.now fit parts-fit _ _ c.write.ensures.repaired_after c.write.ensures.records_after
