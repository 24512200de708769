use Rattle.std.proofs.Common.{◌≡◌, ◌++◌, ◌∷◌, [], List, subst}
use Rattle.std.specs.Prelude.{codes, map, OnOk}
use Rattle.mspec_tree.specs.declared.fields.Body.{out-Body}
use Rattle.mspec_tree.specs.declared.fields.Body.TheOpen as body
use Rattle.mspec_tree.specs.declared.fields.Body.TheVariants as variant
use Rattle.mspec_lexer.specs.Tokens.{text_of}
use Rattle.mspec_printer.specs.Printed.{body_words, expr, listed, lit, quoted, ref, simple, spaced, word}
use Rattle.mspec_printer.proofs.TextLaws.{as_pieces, at_last, body_by, count_text, discriminator_text, implicit_text, length_text, optional_text, reserved_in_parts, simple_text, switch_text, virtual_text}
use Rattle.mspec_printer.proofs.fields.append_body.Goals as goal

pub returns-in-Simple : goal.returns-in-Simple
returns-in-Simple c =
    let bytes = codes "simple " ++ (text_of (ref c.in-Simple.of) ++ (32 ∷ c.args.name.now)) in
    as_pieces c.append_typed.result c.args.text.now.items c.append_typed.new.text.items bytes
    (spaced (body_words c.args.name.now (out-Body c.args.body.now)))
    (body_by c.args.name.now c.args.body.now (variant.Simple c.in-Simple.of) (body.Simple c.in-Simple.of) bytes c.in-Simple.is (variant.rolls-Simple c.in-Simple.of) (simple_text c.args.name.now c.in-Simple.of))
    c.append_typed.ensures

pub returns-in-Discriminator : goal.returns-in-Discriminator
returns-in-Discriminator c =
    let bytes = codes "discriminator " ++ (text_of (ref c.in-Discriminator.of) ++ (32 ∷ c.args.name.now)) in
    as_pieces c.append_typed-in-Discriminator.result c.args.text.now.items c.append_typed-in-Discriminator.new.text.items bytes
    (spaced (body_words c.args.name.now (out-Body c.args.body.now)))
    (body_by c.args.name.now c.args.body.now (variant.Discriminator c.in-Discriminator.of) (body.Discriminator c.in-Discriminator.of) bytes c.in-Discriminator.is (variant.rolls-Discriminator c.in-Discriminator.of) (discriminator_text c.args.name.now c.in-Discriminator.of))
    c.append_typed-in-Discriminator.ensures

pub returns-in_ok-append_plain-in-Reserved : goal.returns-in_ok-append_plain-in-Reserved
returns-in_ok-append_plain-in-Reserved c =
    let bytes = (codes "reserved " ++ (text_of (simple c.in-Reserved.of) ++ (32 ∷ []))) ++ text_of (quoted (lit c.in-Reserved.value)) in
    as_pieces c.append.result c.args.text.now.items c.append.new.text.items bytes
    (spaced (body_words c.args.name.now (out-Body c.args.body.now)))
    (body_by c.args.name.now c.args.body.now (variant.Reserved c.in-Reserved.of c.in-Reserved.value) (body.Reserved c.in-Reserved.of c.in-Reserved.value) bytes c.in-Reserved.is (variant.rolls-Reserved c.in-Reserved.of c.in-Reserved.value) (reserved_in_parts c.args.name.now c.in-Reserved.of c.in-Reserved.value))
    (at_last c.append.result c.args.text.now.items c.append_plain.new.text.items c.append.new.text.items (codes "reserved " ++ (text_of (simple c.in-Reserved.of) ++ (32 ∷ []))) (text_of (quoted (lit c.in-Reserved.value))) c.in_ok-append_plain-in-Reserved.ensures c.append.ensures)

pub returns-in-Implicit : goal.returns-in-Implicit
returns-in-Implicit c =
    let bytes = codes "implicit " ++ (text_of (ref c.in-Implicit.of) ++ (32 ∷ (c.args.name.now ++ (32 ∷ text_of (quoted (expr c.in-Implicit.e)))))) in
    as_pieces c.append_computed.result c.args.text.now.items c.append_computed.new.text.items bytes
    (spaced (body_words c.args.name.now (out-Body c.args.body.now)))
    (body_by c.args.name.now c.args.body.now (variant.Implicit c.in-Implicit.of c.in-Implicit.e) (body.Implicit c.in-Implicit.of c.in-Implicit.e) bytes c.in-Implicit.is (variant.rolls-Implicit c.in-Implicit.of c.in-Implicit.e) (implicit_text c.args.name.now c.in-Implicit.of c.in-Implicit.e))
    c.append_computed.ensures

pub returns-in-Virtual : goal.returns-in-Virtual
returns-in-Virtual c =
    let bytes = codes "virtual " ++ (text_of (ref c.in-Virtual.of) ++ (32 ∷ (c.args.name.now ++ (32 ∷ text_of (quoted (expr c.in-Virtual.e)))))) in
    as_pieces c.append_computed-in-Virtual.result c.args.text.now.items c.append_computed-in-Virtual.new.text.items bytes
    (spaced (body_words c.args.name.now (out-Body c.args.body.now)))
    (body_by c.args.name.now c.args.body.now (variant.Virtual c.in-Virtual.of c.in-Virtual.e) (body.Virtual c.in-Virtual.of c.in-Virtual.e) bytes c.in-Virtual.is (variant.rolls-Virtual c.in-Virtual.of c.in-Virtual.e) (virtual_text c.args.name.now c.in-Virtual.of c.in-Virtual.e))
    c.append_computed-in-Virtual.ensures

pub returns-in-Optional : goal.returns-in-Optional
returns-in-Optional c =
    let bytes = codes "optional " ++ (text_of (ref c.in-Optional.of) ++ (32 ∷ (c.args.name.now ++ (32 ∷ text_of (quoted (expr c.in-Optional.e)))))) in
    as_pieces c.append_computed-in-Optional.result c.args.text.now.items c.append_computed-in-Optional.new.text.items bytes
    (spaced (body_words c.args.name.now (out-Body c.args.body.now)))
    (body_by c.args.name.now c.args.body.now (variant.Optional c.in-Optional.of c.in-Optional.e) (body.Optional c.in-Optional.of c.in-Optional.e) bytes c.in-Optional.is (variant.rolls-Optional c.in-Optional.of c.in-Optional.e) (optional_text c.args.name.now c.in-Optional.of c.in-Optional.e))
    c.append_computed-in-Optional.ensures

pub returns-in-CountArray : goal.returns-in-CountArray
returns-in-CountArray c =
    let bytes = codes "array " ++ (text_of (ref c.in-CountArray.of) ++ (32 ∷ (c.args.name.now ++ (codes " count " ++ text_of (quoted (expr c.in-CountArray.e)))))) in
    as_pieces c.append_computed-in-CountArray.result c.args.text.now.items c.append_computed-in-CountArray.new.text.items bytes
    (spaced (body_words c.args.name.now (out-Body c.args.body.now)))
    (body_by c.args.name.now c.args.body.now (variant.CountArray c.in-CountArray.of c.in-CountArray.e) (body.CountArray c.in-CountArray.of c.in-CountArray.e) bytes c.in-CountArray.is (variant.rolls-CountArray c.in-CountArray.of c.in-CountArray.e) (count_text c.args.name.now c.in-CountArray.of c.in-CountArray.e))
    c.append_computed-in-CountArray.ensures

pub returns-in-LengthArray : goal.returns-in-LengthArray
returns-in-LengthArray c =
    let bytes = codes "array " ++ (text_of (ref c.in-LengthArray.of) ++ (32 ∷ (c.args.name.now ++ (codes " length " ++ text_of (quoted (expr c.in-LengthArray.e)))))) in
    as_pieces c.append_computed-in-LengthArray.result c.args.text.now.items c.append_computed-in-LengthArray.new.text.items bytes
    (spaced (body_words c.args.name.now (out-Body c.args.body.now)))
    (body_by c.args.name.now c.args.body.now (variant.LengthArray c.in-LengthArray.of c.in-LengthArray.e) (body.LengthArray c.in-LengthArray.of c.in-LengthArray.e) bytes c.in-LengthArray.is (variant.rolls-LengthArray c.in-LengthArray.of c.in-LengthArray.e) (length_text c.args.name.now c.in-LengthArray.of c.in-LengthArray.e))
    c.append_computed-in-LengthArray.ensures

pub returns-in_ok-extend_from_slice-in-Switch : goal.returns-in_ok-extend_from_slice-in-Switch
returns-in_ok-extend_from_slice-in-Switch c =
    let bytes = codes "typeSwitch " ++ text_of (listed (map word c.in-Switch.names)) in
    as_pieces c.append_listed.result c.args.text.now.items c.append_listed.new.text.items bytes
    (spaced (body_words c.args.name.now (out-Body c.args.body.now)))
    (body_by c.args.name.now c.args.body.now (variant.Switch c.in-Switch.names c.in-Switch.field-1) (body.Switch c.in-Switch.names c.in-Switch.field-1) bytes c.in-Switch.is (variant.rolls-Switch c.in-Switch.names c.in-Switch.field-1) (switch_text c.args.name.now c.in-Switch.names c.in-Switch.field-1))
    (at_last c.append_listed.result c.args.text.now.items c.extend_from_slice.new.self.items c.append_listed.new.text.items (codes "typeSwitch ") (text_of (listed (map word c.in-Switch.names))) c.in_ok-extend_from_slice-in-Switch.ensures.items
    (subst (λ (ns : List (List _)). OnOk c.append_listed.result (c.append_listed.new.text.items ≡ c.extend_from_slice.new.self.items ++ text_of (listed (map word ns)))) c.as_slice.ensures c.append_listed.ensures))
