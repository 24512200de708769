use Rattle.std.proofs.Common.{rules}
use Rattle.std.proofs.lemmas.Bool.{MatchBool-at_true}
use Rattle.std.proofs.lemmas.Iterator.{YieldsList-from_slice, cases_from_all}
use Rattle.std.proofs.lemmas.Iterator.Search.{true_from_All}
use Rattle.std.proofs.lemmas.List.Elements.{All-from_all_within, All-from_recursion, recursion_from_All}
use Rattle.mspec_tree.specs.declared.fields.Field.{Field}
use Rattle.mspec_meaning.specs.Plain.{IsPlainField}
use Rattle.mspec_meaning.proofs.readable.are_plain.Goals as goal

pub returns : goal.returns
returns c =
    let fields = c.args.fields.now in
    let NotPlain : Field → Type 0 = λ field. ¬ IsPlainField field in
    let cases = cases_from_all _ _ _ IsPlainField NotPlain c.all.ensures.ran (YieldsList-from_slice fields cc) (λ x q k. search rules) (λ x q k. search rules) in (
      λ all. recursion_from_All IsPlainField fields (All-from_all_within IsPlainField fields (MatchBool-at_true _ _ all cases)),
      λ plain. true_from_All IsPlainField NotPlain c.all.result fields (λ field is not. not is) cases (All-from_recursion IsPlainField fields plain),
    )
