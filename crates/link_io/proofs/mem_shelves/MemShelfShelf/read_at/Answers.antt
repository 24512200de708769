use Rattle.std.proofs.Common.{◌≡◌, ◌-◌, Some, None, length, sym, refl, inl, inr, ap, ◌∙◌, arith, length-drop}
use Rattle.link_io.specs.Memory.{file_of, NextFails}
use Rattle.link_io.proofs.mem_shelves.MemShelfShelf.read_at.Goals as goal

pub returns-in-Some-clause-fails : goal.returns-in-Some-clause-fails
returns-in-Some-clause-fails c =
    let found : file_of c.args.self.now.files c.args.name.now ≡ Some c.in-Some.bytes.now =
    rw (← c.self.view_is, ← c.as_slice.ensures.value) (sym c.in-Some.ensures) in
    let calm : NextFails c.args.self.now.calls → ⊥ =
    rw (← c.self.view_is) (λ h. let e = c.next_fails.ensures.fails.1 h in cc c.if-next_fails.false) in
    (λ e. cc, elim [ inl fails ↦ absurd (calm fails) | inr none ↦ cc ])

pub returns-in-Some-clause-how_many : goal.returns-in-Some-clause-how_many
returns-in-Some-clause-how_many c =
    let found : file_of c.args.self.now.files c.args.name.now ≡ Some c.in-Some.bytes.now =
    rw (← c.self.view_is, ← c.as_slice.ensures.value) (sym c.in-Some.ensures) in
    let rest : length c.rest_from.result.now ≡ length c.in-Some.bytes.now - c.args.from =
    ap length c.rest_from.ensures ∙ length-drop c.args.from c.in-Some.bytes.now in
    rw found (rw (← c.self.view_is, ← rest) c.copy_front.ensures.how_many)

pub returns-in-Some-clause-at_end : goal.returns-in-Some-clause-at_end
returns-in-Some-clause-at_end c =
    let found : file_of c.args.self.now.files c.args.name.now ≡ Some c.in-Some.bytes.now =
    rw (← c.self.view_is, ← c.as_slice.ensures.value) (sym c.in-Some.ensures) in
    let rest : length c.rest_from.result.now ≡ length c.in-Some.bytes.now - c.args.from =
    ap length c.rest_from.ensures ∙ length-drop c.args.from c.in-Some.bytes.now in
    λ e.
    let zero : c.copy_front.result ≡ 0 = cc in
    rw found (omega (arith, zero, rest, c.copy_front.ensures.how_many, c.self.invariant, c.requires))

pub returns-in-None-clause-fails : goal.returns-in-None-clause-fails
returns-in-None-clause-fails c =
    let lost : file_of c.args.self.now.files c.args.name.now ≡ None =
    rw (← c.self.view_is, ← c.as_slice.ensures.value) (sym c.in-None.ensures) in
    (λ e. inr lost, λ h. refl)
