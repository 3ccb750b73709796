use Rattle.codec.proofs.Reading.{place_again, broken, held}
use Rattle.codec.proofs.lawful.Goals as goal

pub ruled-requires : goal.ruled-requires
ruled-requires c = place_again _ _ _ _ c.requires c.take_free.new.free c.take_free.ensures

pub returns-then-ruled : goal.returns-then-ruled
returns-then-ruled c = (held _ _ _ _ c.requires c.take_free.new.free c.take_free.ensures _ c.ruled.ensures c.if-ruled.true _ c.divides.ensures, c.take_free.ensures)

pub returns-else-ruled : goal.returns-else-ruled
returns-else-ruled c =
    let no = c.if-ruled.false in
    let b = broken _ _ _ _ c.requires c.take_free.new.free c.take_free.ensures _ c.ruled.ensures no in
    (cc, c.take_free.ensures)
