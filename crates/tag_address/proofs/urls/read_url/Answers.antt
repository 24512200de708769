use Rattle.std.proofs.Common.{◌≡◌, min, refl, sym, ◌∙◌, inl}
use Rattle.tag_address.specs.declared.urls.UrlFault.TheVariants.{At}
use Rattle.tag_address.proofs.WholeUrls.{no_url, to_url, url_exact, url_refused}
use Rattle.tag_address.proofs.urls.read_url.Goals as goal

pub returns-in-Ok-from_slice-clause-read : goal.returns-in-Ok-from_slice-clause-read
returns-in-Ok-from_slice-clause-read c =
    let there = to_url c.args.text.now _ c.in-Ok.ensures.read.is in
    rw c.in-Ok-from_slice.ensures there

pub returns-in-Ok-from_slice-clause-exact : goal.returns-in-Ok-from_slice-clause-exact
returns-in-Ok-from_slice-clause-exact c =
    λ url is.
    let same = url_exact c.args.text.now _ url c.in-Ok.ensures.read is in
    inl (rw c.in-Ok-from_slice.ensures (rw same refl))

pub returns-in-Err-clause-exact : goal.returns-in-Err-clause-exact
returns-in-Err-clause-exact c = λ url is. absurd (no_url c.args.text.now c.in-Err.place url c.in-Err.ensures.stuck is)

pub returns-in-Err-clause-refused : goal.returns-in-Err-clause-refused
returns-in-Err-clause-refused c =
    λ told is.
    let same : c.fault_at.result ≡ At told = cc in
    let both : At (min c.in-Err.place 4294967295) ≡ At told = sym c.fault_at.ensures ∙ same in
    record { place = c.in-Err.place; at = url_refused c.args.text.now c.in-Err.place c.in-Err.ensures.stuck; told_is = cc }
