use Rattle.std.proofs.Common.{◌++◌, ◌∷◌, []}
use Rattle.std.specs.Prelude.{codes}
use Rattle.mspec_lexer.specs.Tokens.{text_of}
use Rattle.mspec_printer.specs.Printed.{field_head, member}
use Rattle.mspec_printer.proofs.TextLaws.{as_pieces, member_none}
use Rattle.mspec_printer.proofs.fields.append_member.Goals as goal

pub returns-in-None : goal.returns-in-None
returns-in-None c =
    as_pieces c.append_field.result c.args.text.now.items c.append_field.new.text.items
    (codes "  [" ++ (text_of (field_head c.args.f.now) ++ (93 ∷ 10 ∷ [])))
    (member c.args.f.now)
    (member_none c.args.f.now c.in-None.ensures)
    c.append_field.ensures
