use Rattle.bit_base.proofs.WindowLemmas.{put_field}
use Rattle.bit_base.proofs.windows.with_field.Goals as goal

pub returns : goal.returns
returns c =
    rw (c.from.ensures, c.from-2.ensures)
    (put_field c.args.window c.args.behind c.args.width c.args.field c.requires.window c.requires.behind c.requires.width c.requires.field)
