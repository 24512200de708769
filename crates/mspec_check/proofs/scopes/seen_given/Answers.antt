use Rattle.std.proofs.Common.{ap}
use Rattle.mspec_check.specs.Scopes.{implicit_words}
use Rattle.mspec_check.proofs.ScopeLaws.{given_gathered}
use Rattle.mspec_check.proofs.scopes.seen_given.Goals as goal

pub returns : goal.returns
returns c =
    let site = c.args.site.now in
    ap (λ names. record { names = names; words = implicit_words })
    (given_gathered c.args.d.now site.params.now site.outer_before.now site.before.now site.after.now site.outer_after.now _ _ _ _ _ _ c.new.ensures c.in_ok-see_params.ensures c.in_ok-see_fields.ensures c.in_ok-see_fields-2.ensures c.in_ok-see_fields-3.ensures c.in_ok-see_fields-4.ensures)
