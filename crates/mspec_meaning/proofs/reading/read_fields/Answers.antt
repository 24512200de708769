use Rattle.std.proofs.Common.{◌≡◌, ◌+◌, ◌*◌, List, [], ◌∷◌, ◌++◌, drop, Ok, Err, sym, ap, ◌∙◌, subst, arith}
use Rattle.std.proofs.lemmas.Result.{err_from_is_err_and}
use Rattle.std.proofs.lemmas.List.{map-append}
use Rattle.std.proofs.Math.ListN.{set}
use Rattle.std.proofs.lemmas.Grind.{flat_map-append}
use Rattle.std.specs.List.{flat_map}
use Rattle.node_tree.specs.Bits.{bits_of}
use Rattle.node_tree.specs.declared.nodes.Node.{Node}
use Rattle.node_tree.specs.declared.readings.Span.{Span}
use Rattle.mspec_tree.specs.declared.fields.Field.{Field}
use Rattle.mspec_meaning.specs.Plain.{ArePlain}
use Rattle.mspec_meaning.specs.Reads.{Part, number_part, FieldReads, FieldsRead}
use Rattle.mspec_meaning.proofs.NumberLemmas.{whole_bytes}
use Rattle.mspec_meaning.proofs.FieldLemmas.{next_field, goes_on, fails_at, plain_reads, is_width, of_fault, end_of-more, grouped, all_read}
use Rattle.mspec_meaning.proofs.reading.read_fields.Goals as goal

pub returns-in_err-number-clause-fault : goal.returns-in_err-number-clause-fault
returns-in_err-number-clause-fault c =
    let p = err_from_is_err_and c.from_residual-in_err-number.result c.from_residual-in_err-number.ensures.1 in
    let fields = c.args.fields.now in
    let i = c.loop-field.field-index in
    let field = c.field-item.result in
    let inv = c.loop-field.invariant in
    let next = next_field fields i field c.loop-field-test.true c.field-item.is in
    let above = c.args.above in
    let plain = subst (λ (fs : List Field). ArePlain fs) next inv.5 in
    let width = c.width_of-width.result in
    let at = 8 * c.loop-field.from in
    let bits = bits_of c.args.bytes.now in
    rw (p.1, p.2)
    (of_fault _ _ _ (λ fault short. fails_at above fields i field at bits inv.0 fault next (plain_reads above field c.order_of-order.result width at bits (Err fault) c.width_of-width.ensures c.order_of-order.ensures short) inv.6) c.in_err-number.ensures.number)

pub loop-field-preserved : goal.loop-field-preserved
loop-field-preserved c =
    let fields = c.args.fields.now in
    let i = c.loop-field.field-index in
    let field = c.field-item.result in
    let inv = c.loop-field.invariant in
    let next = next_field fields i field c.loop-field-test.true c.field-item.is in
    let above = c.args.above in
    let plain = subst (λ (fs : List Field). ArePlain fs) next inv.5 in
    let part = number_part c.in_ok-number.number c.width_of-width.result (8 * c.loop-field.from) in
    let bits = bits_of c.args.bytes.now in
    let read : FieldReads above field (8 * c.loop-field.from) bits (Ok part) = plain_reads above field c.order_of-order.result c.width_of-width.result (8 * c.loop-field.from) bits (Ok part) c.width_of-width.ensures c.order_of-order.ensures c.in_ok-number.ensures.number in
    let width = c.width_of-width.result in
    let whole = whole_bytes width (is_width _ width c.width_of-width.ensures) in
    let end : 8 * c.loop-field.from + width ≡ 8 * (c.loop-field.from + c.from.result) = omega (arith, whole, c.from.ensures) in (
      inv.0 ++ part ∷ [],
      c.in_ok-push-2.ensures.items ∙ ap (λ (node : Node). c.loop-field.entries.items ++ node ∷ []) c.number_node.ensures ∙ ap (λ (nodes : List Node). nodes ++ part.node ∷ []) inv.1 ∙ sym (map-append (λ (p : Part). p.node) inv.0 (part ∷ [])),
      c.in_ok-push-3.ensures.items
          ∙ ap (λ (spans : List Span). spans ++ record { from = 8 * c.loop-field.from; to = 8 * (c.loop-field.from + c.from.result) } ∷ []) inv.2
          ∙ ap (λ to. record { from = 0; to = 0 } ∷ (flat_map (λ (p : Part). p.spans) inv.0 ++ record { from = 8 * c.loop-field.from; to = to } ∷ [])) (sym end)
          ∙ ap (λ (spans : List Span). record { from = 0; to = 0 } ∷ spans) (sym (flat_map-append (λ (p : Part). p.spans) inv.0 (part ∷ []))),
      end_of-more 0 inv.0 part ∙ end,
      omega (arith, whole, c.from.ensures, c.in_ok-number.ensures.within),
      plain.1,
      λ outcome rest. goes_on above fields i field (8 * c.loop-field.from) bits inv.0 part next read inv.6 outcome (subst (λ at. FieldsRead above (drop (i + 1) fields) at bits outcome) (sym end) rest),
    )

pub returns-clause-found : goal.returns-clause-found
returns-clause-found c =
    let inv = c.loop-field.invariant in
    let bits = 8 * c.loop-field.from in (
      inv.0,
      all_read c.args.above c.args.fields.now c.loop-field.field-index bits (bits_of c.args.bytes.now) inv.0 (omega arith) inv.6,
      grouped inv.0 c.from_vec.result bits c.from_vec-2.result (c.from_vec.ensures ∙ inv.1) inv.3
          (c.from_vec-2.ensures ∙ ap (λ (spans : List Span). set spans 0 (record { from = 0; to = bits })) inv.2),
    )
