use Rattle.std.proofs.Common.{◌++◌, ◌∙◌, ap, subst, sym}
use Rattle.mspec_expr.specs.Ranges.{Judged, is_flag, is_kind, kind_wrong}
use Rattle.mspec_ranges.specs.Verdicts.{Tells, earlier, earliest}
use Rattle.mspec_ranges.proofs.VerdictLaws.{branches_half, branches_none, branches_some, own_three}
use Rattle.mspec_ranges.proofs.operators.chosen.Goals as goal

pub returns-in_default : goal.returns-in_default
returns-in_default c j x y hc h k =
    let own = kind_wrong (is_kind is_flag j.meant) c.args.place in
    let wrong = c.kind_wrong-wrong.ensures ∙ ap (λ b. earliest (kind_wrong b c.args.place)) (c.may_be_flag.ensures ∙ ap (λ m. is_kind is_flag m) hc.meant) in
    let all = own ++ j.faults ++ x.faults ++ y.faults in
    let told = c.earlier-fault.ensures ∙ ap (λ m. earlier m c.args.b.fault) (c.earlier-2.ensures ∙ ap (λ m. earlier m c.args.a.fault) c.earlier.ensures) ∙ own_three own j.faults x.faults y.faults _ _ _ _ wrong hc.fault h.fault k.fault in
    subst (λ (one : Judged). Tells c.unknown.result one) (sym (branches_none c.args.place all x.meant y.meant (sym h.meant ∙ c.in_default.is))) (c.unknown.ensures all told)

pub returns-in_default-meant : goal.returns-in_default-meant
returns-in_default-meant c j x y hc h k =
    let own = kind_wrong (is_kind is_flag j.meant) c.args.place in
    let wrong = c.kind_wrong-wrong.ensures ∙ ap (λ b. earliest (kind_wrong b c.args.place)) (c.may_be_flag.ensures ∙ ap (λ m. is_kind is_flag m) hc.meant) in
    let all = own ++ j.faults ++ x.faults ++ y.faults in
    let told = c.earlier-fault.ensures ∙ ap (λ m. earlier m c.args.b.fault) (c.earlier-2.ensures ∙ ap (λ m. earlier m c.args.a.fault) c.earlier.ensures) ∙ own_three own j.faults x.faults y.faults _ _ _ _ wrong hc.fault h.fault k.fault in
    subst (λ (one : Judged). Tells c.unknown-in_default-meant.result one)
    (sym (branches_half c.args.place all x.meant y.meant c.in-Some.first (sym h.meant ∙ c.in-Some.is) (sym k.meant ∙ c.in_default-meant.is)))
    (c.unknown-in_default-meant.ensures all told)

pub returns-in-Some-joined : goal.returns-in-Some-joined
returns-in-Some-joined c j x y hc h k =
    let own = kind_wrong (is_kind is_flag j.meant) c.args.place in
    let wrong = c.kind_wrong-wrong.ensures ∙ ap (λ b. earliest (kind_wrong b c.args.place)) (c.may_be_flag.ensures ∙ ap (λ m. is_kind is_flag m) hc.meant) in
    let all = own ++ j.faults ++ x.faults ++ y.faults in
    let told = c.earlier-fault.ensures ∙ ap (λ m. earlier m c.args.b.fault) (c.earlier-2.ensures ∙ ap (λ m. earlier m c.args.a.fault) c.earlier.ensures) ∙ own_three own j.faults x.faults y.faults _ _ _ _ wrong hc.fault h.fault k.fault in
    subst (λ (one : Judged). Tells c.is.result one)
    (sym (branches_some c.args.place all x.meant y.meant c.in-Some.first c.in-Some-meant.second _ (sym h.meant ∙ c.in-Some.is) (sym k.meant ∙ c.in-Some-meant.is) (sym c.in-Some-joined.is ∙ c.joined.ensures)))
    (c.is.ensures all told)

pub returns-in-None : goal.returns-in-None
returns-in-None c j x y hc h k =
    let own = kind_wrong (is_kind is_flag j.meant) c.args.place in
    let wrong = c.kind_wrong-wrong.ensures ∙ ap (λ b. earliest (kind_wrong b c.args.place)) (c.may_be_flag.ensures ∙ ap (λ m. is_kind is_flag m) hc.meant) in
    let all = own ++ j.faults ++ x.faults ++ y.faults in
    let told = c.earlier-fault.ensures ∙ ap (λ m. earlier m c.args.b.fault) (c.earlier-2.ensures ∙ ap (λ m. earlier m c.args.a.fault) c.earlier.ensures) ∙ own_three own j.faults x.faults y.faults _ _ _ _ wrong hc.fault h.fault k.fault in
    subst (λ (one : Judged). Tells c.nothing.result one)
    (sym (branches_some c.args.place all x.meant y.meant c.in-Some.first c.in-Some-meant.second _ (sym h.meant ∙ c.in-Some.is) (sym k.meant ∙ c.in-Some-meant.is) (sym c.in-None.is ∙ c.joined.ensures)))
    (c.nothing.ensures all told)
