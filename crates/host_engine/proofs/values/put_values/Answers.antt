use Rattle.std.proofs.Common.{◌≢◌, ℕ, ◌+◌, ◌*◌, ◌-◌, ◌/◌, ◌%◌, List, [], ◌∷◌, ◌++◌, length, Result, Ok, Err, inl, inr, sym, ◌∙◌, subst, arith}
use Rattle.std.proofs.lemmas.List.{take_rest}
use Rattle.std.proofs.lemmas.Result.{err_from_is_err_and, IfOk-weaker}
use Rattle.node_tree.specs.Bits.{bits_of}
use Rattle.node_tree.specs.declared.readings.Reading.{Reading}
use Rattle.mspec_meaning.specs.Reads.{Reads}
use Rattle.mspec_meaning.specs.Stream.{Stream}
use Rattle.mspec_meaning.specs.Faults.{OfFault}
use Rattle.mspec_tree.specs.declared.fields.Field.{Field}
use Rattle.std.specs.Result.{IfOk}
use Rattle.host_engine.specs.declared.faults.Cut.{Cut}
use Rattle.host_engine.specs.declared.values.Rest.{Rest}
use Rattle.host_engine.specs.Endings.{ending_of, fault_rest}
use Rattle.host_engine.specs.Listing.{listing, fields_at}
use Rattle.host_engine.specs.Tool.{listings}
use Rattle.host_engine.specs.Runs.{Adds, PutsFront}
use Rattle.host_engine.proofs.RunLemmas.{Adds-more, Adds-same, PutsFront-after}
use Rattle.host_engine.proofs.StreamLemmas.{ends_whole, ends_faulty, ends_nothing, ends_unaligned, one_more_reading, some_rest, listings_more}
use Rattle.host_engine.proofs.values.put_values.Goals as goal

pub returns-then-reading-eq0-clause-values : goal.returns-then-reading-eq0-clause-values
returns-then-reading-eq0-clause-values g c =
    let d = c.args.d.now in
    let bytes = c.args.bytes.now in
    let at = c.loop-at.at in
    let inv = c.loop-at.invariant in
    let reading = c.in-Ok.reading in
    let read = subst (λ (xs : List ℕ). Reads d c.args.def [] (bits_of xs) (Ok reading)) (take_rest bytes at) c.in-Ok.ensures.found in
    (inv.0, ends_nothing d c.args.def bytes at reading inv.0 c.loop-at-test.true read c.if-reading-eq0.true inv.3, inv.1)

pub returns-then-reading-ne0-clause-values : goal.returns-then-reading-ne0-clause-values
returns-then-reading-ne0-clause-values g c =
    let d = c.args.d.now in
    let bytes = c.args.bytes.now in
    let at = c.loop-at.at in
    let inv = c.loop-at.invariant in
    let reading = c.in-Ok.reading in
    let read = subst (λ (xs : List ℕ). Reads d c.args.def [] (bits_of xs) (Ok reading)) (take_rest bytes at) c.in-Ok.ensures.found in
    let part : reading.bits % 8 ≢ 0 = c.if-reading-ne0.true in
    rw c.from.ensures (inv.0, ends_unaligned d c.args.def bytes at reading inv.0 c.loop-at-test.true read part inv.3, inv.1)

pub returns-in_err-put_value-clause-no_memory : goal.returns-in_err-put_value-clause-no_memory
returns-in_err-put_value-clause-no_memory g c =
    let p = err_from_is_err_and c.from_residual.result c.from_residual.ensures.1 in
    let inv = c.loop-at.invariant in
    let rest = some_rest c.args.d.now c.args.def c.args.bytes.now c.loop-at.at inv.0 c.requires.can inv.3 in
    λ (e : _). let same = c.in_err-put_value.ensures.no_memory (cc) in (
      inv.0,
      rest.0,
      rest.1,
      rest.2,
      Adds-same (g.K.Sink.seen c.args.out.now).held (g.K.Sink.seen c.loop-at.out).held (g.K.Sink.seen c.put_value.new.out).held c.args.gathered.now.items c.loop-at.gathered.items c.put_value.new.gathered.items (listings c.args.d.now c.args.def inv.0) inv.1 same.0 same.1,
    )

pub returns-in_err-put_value-clause-cut : goal.returns-in_err-put_value-clause-cut
returns-in_err-put_value-clause-cut g c =
    let p = err_from_is_err_and c.from_residual.result c.from_residual.ensures.1 in
    let d = c.args.d.now in
    let def = c.args.def in
    let bytes = c.args.bytes.now in
    let at = c.loop-at.at in
    let inv = c.loop-at.invariant in
    let reading = c.in-Ok.reading in
    let read = subst (λ (xs : List ℕ). Reads d def [] (bits_of xs) (Ok reading)) (take_rest bytes at) c.in-Ok.ensures.found in
    let goes = one_more_reading d def bytes at reading inv.0 c.loop-at-test.true read (omega arith) (omega arith) inv.3 in
    let rest = some_rest d def bytes (at + reading.bits / 8) (inv.0 ++ reading ∷ []) c.requires.can goes in
    let h0 = (g.K.Sink.seen c.args.out.now).held in
    let h2 = (g.K.Sink.seen c.put_value.new.out).held in
    let t0 = c.args.gathered.now.items in
    let t1 = c.loop-at.gathered.items in
    λ (e : _).
    let put = subst (λ (fields : List Field). PutsFront (g.K.Sink.seen c.loop-at.out).held h2 (t1 ++ listing fields reading.node)) c.fields_of-fields.ensures (c.in_err-put_value.ensures.cut (cc)) in
    let all = PutsFront-after h0 (g.K.Sink.seen c.loop-at.out).held h2 t0 t1 (listings d def inv.0) (listing (fields_at d def) reading.node) inv.1 put in (
      inv.0 ++ reading ∷ [],
      rest.0,
      rest.1,
      rest.2,
      subst (λ (xs : List ℕ). PutsFront h0 h2 (t0 ++ xs)) (sym (listings_more d def inv.0 reading)) all,
    )

pub loop-at-preserved : goal.loop-at-preserved
loop-at-preserved g c =
    let d = c.args.d.now in
    let bytes = c.args.bytes.now in
    let at = c.loop-at.at in
    let inv = c.loop-at.invariant in
    let reading = c.in-Ok.reading in
    let read = subst (λ (xs : List ℕ). Reads d c.args.def [] (bits_of xs) (Ok reading)) (take_rest bytes at) c.in-Ok.ensures.found in
    let h0 = (g.K.Sink.seen c.args.out.now).held in
    let h1 = (g.K.Sink.seen c.loop-at.out).held in
    let h2 = (g.K.Sink.seen c.put_value.new.out).held in
    let t0 = c.args.gathered.now.items in
    let t1 = c.loop-at.gathered.items in
    let t2 = c.put_value.new.gathered.items in
    let one = subst (λ (fields : List Field). Adds h1 h2 t1 t2 (listing fields reading.node)) c.fields_of-fields.ensures c.in_ok-put_value.ensures.added in
    let all = Adds-more h0 h1 h2 t0 t1 t2 (listings d c.args.def inv.0) (listing (fields_at d c.args.def) reading.node) inv.1 one in (
      inv.0 ++ reading ∷ [],
      subst (λ (xs : List ℕ). Adds h0 h2 t0 t2 xs) (sym (listings_more d c.args.def inv.0 reading)) all,
      elim c.in_ok-put_value.ensures.no_fault [ inl bad ↦ absurd cc | inr same ↦ same ∙ inv.2 ],
      one_more_reading d c.args.def bytes at reading inv.0 c.loop-at-test.true read (omega arith) (omega arith) inv.3,
    )

pub returns-clause-values : goal.returns-clause-values
returns-clause-values g c =
    let inv = c.loop-at.invariant in
    (inv.0, ends_whole c.args.d.now c.args.def c.args.bytes.now c.loop-at.at inv.0 (omega arith) inv.3, inv.1)

pub returns-in-Err-clause-values : goal.returns-in-Err-clause-values
returns-in-Err-clause-values g c =
    let inv = c.loop-at.invariant in
    let bytes = c.args.bytes.now in
    let at = c.loop-at.at in
    let d = c.args.d.now in
    let def = c.args.def in
    let e = c.in-Err.fault in
    let fault = subst (λ (xs : List ℕ). OfFault e (λ fault. Reads d def [] (bits_of xs) (Err fault))) (take_rest bytes at) c.in-Err.ensures.fault in
    let h0 = (g.K.Sink.seen c.args.out.now).held in
    let h1 = (g.K.Sink.seen c.loop-at.out).held in
    let t0 = c.args.gathered.now.items in
    let t1 = c.loop-at.gathered.items in
    let All : Rest → Type 0 = λ rest. (readings : List Reading) × Stream d def [] bytes readings (ending_of rest) × Adds h0 h1 t0 t1 (listings d def readings) in
    subst (λ (r : Result Rest Cut). IfOk r All) (sym c.fault_rest.ensures)
    (IfOk-weaker (fault_rest e (8 * at) (8 * (length bytes - at))) (λ rest. Stream d def [] bytes inv.0 (ending_of rest)) All (λ rest h. (inv.0, h, inv.1)) (ends_faulty d def bytes at inv.0 e c.loop-at-test.true fault inv.3))

pub returns-in-Err-clause-no_memory : goal.returns-in-Err-clause-no_memory
returns-in-Err-clause-no_memory g c =
    let inv = c.loop-at.invariant in
    let rest = some_rest c.args.d.now c.args.def c.args.bytes.now c.loop-at.at inv.0 c.requires.can inv.3 in
    λ (e : _). (inv.0, rest.0, rest.1, rest.2, inv.1)
