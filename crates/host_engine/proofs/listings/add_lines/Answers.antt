use Rattle.std.proofs.Common.{◌≡◌, ℕ, List, ◌++◌, length, ap, sym, ◌∙◌}
use Rattle.std.proofs.lemmas.List.{append-nil}
use Rattle.std.proofs.lemmas.Slice.Zip.{zip_end}
use Rattle.host_engine.specs.Listing.{lines}
use Rattle.host_engine.proofs.ListingLemmas.{lines_done}
use Rattle.host_engine.proofs.listings.add_lines.Goals as goal

pub returns : goal.returns
returns c =
    let inv = c.loop-field.invariant in
    let fields = c.args.fields.now in
    let entries = c.args.entries.now in
    let pairs = c.into_iter-field-iterator.result in
    let first : pairs.a.rest.now ≡ fields = cc in
    let second : pairs.b.rest.now ≡ entries = cc in
    let end = zip_end fields entries c.loop-field.yielded pairs c.loop-field.field-iterator c.next.new.self c.next.result first second c.loop-field.yielded_by c.in-None.is c.next.ensures.steps in
    let none = lines_done (length c.loop-field.yielded) fields entries end in
    let all : inv.0 ≡ lines fields entries = sym (append-nil inv.0) ∙ ap (λ (xs : List ℕ). inv.0 ++ xs) (sym none) ∙ inv.2 in
    inv.1 ∙ ap (λ (xs : List ℕ). c.args.text.now.items ++ xs) all
