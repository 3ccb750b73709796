use Rattle.std.proofs.Common.{◌≡◌, sym, ap, ◌∙◌, ℕ, ◌*◌, length}
use Rattle.strips.proofs.Loops.{next_left, some_left, put_record, place_turn}
use Rattle.strips.proofs.place.place.Goals as goal

pub loop-j-preserved : goal.loop-j-preserved
loop-j-preserved c =
    let T = c.args.s.now in
    let inv = c.loop-j.invariant in
    let s = c.in-Some.ensures.steps in
    let h : length c.in-Some.bytes.now ≡ 64 = s.1.1 ∙ inv.size in
    let there = some_left c.loop-j.j T.records.now _ _ _ inv.left s.1.0 h (length T.lost.now) (T.whole ∙ ap (λ (k : ℕ). k * 64) (sym T.formed.symbols)) in
    record {
      size = s.0 ∙ inv.size;
      left = next_left c.loop-j.j T.records.now _ _ _ inv.left s.1.0 h;
      placed = place_turn inv.placed there (sym T.wide) _ c.put.ensures.old (put_record c.loop-j.j T.records.now _ _ _ inv.left s.1.0 h c.put.ensures);
    }
