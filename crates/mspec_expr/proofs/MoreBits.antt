-- More bits behind a value change nothing but a reading that ended too early.
use Rattle.std.proofs.Common.{◌≡◌, ℕ, ℤ, zero, suc, ◌+◌, ◌-◌, ◌*◌, ◌/◌, ◌≤◌, Bool, true, false, List, [], ◌∷◌, ◌++◌, length, take, drop, Option, Some, None, Result, Ok, Err, refl, sym, ap, ◌∙◌, subst, arith}
use Rattle.std.proofs.lemmas.Bool.{leb-true, le-leb}
use Rattle.std.proofs.lemmas.List.{length-append, length-drop, drop-append-le, take-append-le}
use Rattle.std.specs.Prelude.{pos, negsuc, sum, fold, bit_xor, nat_le, nat_lt, ◌==◌}
use Rattle.std.specs.Ordering.{int_eq}
use Rattle.node_tree.specs.Bits.{big_number}
use Rattle.node_tree.specs.declared.nodes.Node.{Node, out-Node}
use Rattle.node_tree.specs.declared.nodes.Node.TheVariants.{Absent, Blob, Group, List as ListNode}
use Rattle.node_tree.specs.declared.readings.Reading.{Reading}
use Rattle.node_tree.specs.declared.faults.ReadWhy.{ReadWhy}
use Rattle.node_tree.specs.declared.faults.ReadWhy.TheVariants.{TooLong, ZeroItem, LengthOverrun, ValueRange, ConstMismatch, ChecksumMismatch, TooDeep}
use Rattle.mspec_tree.specs.declared.words.ByteOrder.{ByteOrder}
use Rattle.mspec_tree.specs.declared.words.Lit.{Lit}
use Rattle.mspec_tree.specs.declared.words.Simple.{Simple}
use Rattle.mspec_tree.specs.declared.words.Simple.TheVariants.{Byte, Bit, Uint, Int, Float}
use Rattle.mspec_tree.specs.declared.exprs.Expr.{Expr}
use Rattle.mspec_tree.specs.declared.exprs.Ref.{Ref}
use Rattle.mspec_tree.specs.declared.exprs.Ref.TheVariants.{Plain, Named}
use Rattle.mspec_tree.specs.declared.fields.Field.{Field, out-Field}
use Rattle.mspec_tree.specs.declared.fields.Body.TheOpen.{Body-F}
use Rattle.mspec_tree.specs.declared.fields.Case.{Case}
use Rattle.mspec_tree.specs.declared.defs.Param.{Param}
use Rattle.mspec_tree.specs.declared.defs.Description.{Description}
use Rattle.mspec_expr.specs.Counted.{Counted, continued, counted, done, faulted, required, in_turn, ◌>>=◌, ◌>>◌}
use Rattle.mspec_expr.specs.declared.kinds.Target.{Target}
use Rattle.mspec_expr.specs.declared.kinds.Target.TheVariants.{Enum as EnumTarget, Group as GroupTarget}
use Rattle.mspec_expr.specs.Kinds.{BodyLayer, layer, width, literal, number_is, of_kind, kind_node, field_meant, fields_of, params_of, case_fields, target_named}
use Rattle.mspec_expr.specs.Values.{Sight}
use Rattle.mspec_expr.specs.Sizes.{depth_limit, bit_limit, node_limit}
use Rattle.mspec_expr.specs.Contexts.{at_start, bad, seen_too, read_why, Context, Fault, Short, Bad, Outcome, Part, begun, must, bits_at, number_read, bitless, behind, opened, closed, whole_bytes, bytes_before, sight, sight_with_sums, evaluated, spelled_node, spelled, number_order, span}
use Rattle.mspec_expr.specs.Reads.{Groups, Items, arguments, value_read, target_read, has_bits, unless, items_by_count, items_by_length, bytes_read, blob_read, list_by_count, list_by_length, array_by_count, array_by_length, in_count_range, count_read, must_be, const_read, virtual_read, present_read, optional_read, checksum_read, padding_read, body_read, field_read, case_read, case_or_none, first_case, switch_read, any_field_read, group_begun, group_read, read_to, whole, reads}
use Rattle.mspec_expr.proofs.RangeKnown.{false_true}

-- the part that a number's bits make
abbrev number_part : (own : Option ByteOrder) → Simple → Context → List Bool → Part
number_part own simple c bits = record {
  node = spelled_node simple (spelled (number_order own c.order (width simple)) bits);
  end = c.position + width simple;
  spans = span c.position (c.position + width simple) ∷ [];
}

-- the same with more bits behind
abbrev longer : List Bool → Context → Context
longer more c = record c { bits = c.bits ++ more }

-- an outcome stays: a fault but the early end, and what was read, up to `ok`
abbrev pub Steady : {A : Type 0} → (A → A → Type 0) → Result A Fault → Result A Fault → Type 0
Steady ok (Err Short) other = Unit {0}
Steady ok (Err (Bad bit why)) other = other ≡ Err (Bad bit why)
Steady {A} ok (Ok a) other = (b : A) × (other ≡ Ok b) × ok a b

abbrev Same : {A : Type 0} → A → A → Type 0
Same a b = a ≡ b

steady_then : {A B : Type 0} (ok : A → A → Type 0) (good : B → B → Type 0) (one other : Result A Fault) (next after : A → Counted B Fault) → Steady ok one other → ((a b : A) → one ≡ Ok a → ok a b → Steady good (next a).outcome (after b).outcome) → Steady good (continued one next).outcome (continued other after).outcome
steady_then ok good (Err Short) other next after h n = tt
steady_then ok good (Err (Bad bit why)) other next after h n = ap (λ r. (continued r after).outcome) h
steady_then {A} {B} ok good (Ok a) other next after h n =
    subst (λ (r : Result A Fault). Steady good (next a).outcome (continued r after).outcome) (sym h.1) (n a h.0 refl h.2)

steady_same : {A : Type 0} (r : Result A Fault) → Steady (Same {A = A}) r r
steady_same (Err Short) = tt
steady_same (Err (Bad bit why)) = refl
steady_same (Ok a) = (a, refl, refl)

-- a fault stays, whatever is read
steady_fault : {A : Type 0} (ok : A → A → Type 0) (fault : Fault) → Steady ok (Err fault) (Err fault)
steady_fault ok Short = tt
steady_fault ok (Bad bit why) = refl

-- what both must be alike
steady_must : {B : Type 0} (good : B → B → Type 0) (holds : Bool) (fault : Fault) (next after : Unit {0} → Counted B Fault) → (holds ≡ true → Steady good (next tt).outcome (after tt).outcome) → Steady good (continued (required holds fault).outcome next).outcome (continued (required holds fault).outcome after).outcome
steady_must good true fault next after h = h refl
steady_must good false fault next after h = steady_fault good fault

-- ---- contexts

record Well (c : Context) : Type 0 where
  start : c.first ≤ c.position
  there : c.position ≤ length c.bits

-- a part that was read is the same, and its bits are there
record PartOk (c : Context) (a b : Part) : Type 0 where
  same : a ≡ b
  onward : c.position ≤ a.end
  there : a.end ≤ length c.bits

record StepOk (more : List Bool) (c a b : Context) : Type 0 where
  same : longer more a ≡ b
  bits : a.bits ≡ c.bits
  onward : c.position ≤ a.position
  well : Well a

abbrev SteadyPart : List Bool → (Context → Outcome Part) → Type 0
SteadyPart more f = (c : Context) → Well c → Steady (PartOk c) (f c).outcome (f (longer more c)).outcome

abbrev SteadyStep : List Bool → (Context → Outcome Context) → Type 0
SteadyStep more f = (c : Context) → Well c → Steady (StepOk more c) (f c).outcome (f (longer more c)).outcome

-- ---- bits

same_slice : (width at : ℕ) (bits more : List Bool) → at + width ≤ length bits → take width (drop at bits) ≡ take width (drop at (bits ++ more))
same_slice width at bits more h =
    sym (ap (λ (rest : List Bool). take width rest) (drop-append-le at bits more (omega arith))
    ∙ take-append-le width (drop at bits) more (omega (arith, length-drop at bits)))

abbrev SliceOk : (width : ℕ) → Context → List Bool → List Bool → Type 0
SliceOk width c a b = (a ≡ b) × (c.position + width ≤ length c.bits)

steady_bits : (more : List Bool) (width : ℕ) (c : Context) → Steady (SliceOk width c) (bits_at width c).outcome (bits_at width (longer more c)).outcome
steady_bits more width c =
    steady_must (SliceOk width c) (nat_le (c.position + width) bit_limit) (Bad c.position TooLong) _ _
    (λ fits. go (nat_le (c.position + width) (length c.bits)) refl)
  where
    slice : List Bool → List Bool
    slice bits = take width (drop c.position bits)

    there : (b : Bool) → b ≡ true → (let wide : Result (List Bool) Fault = (continued (required b Short).outcome (λ u. done (slice (c.bits ++ more)))).outcome in wide ≡ Ok (slice (c.bits ++ more)))
    there true e = refl
    there false e = false_true e

    go : (x : Bool) → nat_le (c.position + width) (length c.bits) ≡ x → Steady (SliceOk width c) (continued (required x Short).outcome (λ u. done (slice c.bits))).outcome (continued (required (nat_le (c.position + width) (length (c.bits ++ more))) Short).outcome (λ u. done (slice (c.bits ++ more)))).outcome
    go true e =
        let fits : c.position + width ≤ length c.bits = leb-true (c.position + width) (length c.bits) e in
        let longer-fits = le-leb (c.position + width) (length (c.bits ++ more)) (omega (arith, fits, length-append c.bits more)) in
        (slice (c.bits ++ more), there (nat_le (c.position + width) (length (c.bits ++ more))) longer-fits, (same_slice width c.position c.bits more fits, fits))
    go false e = tt

same_whole : (n : ℕ) (bits more : List Bool) → 8 * n ≤ length bits → whole_bytes n bits ≡ whole_bytes n (bits ++ more)
same_whole zero bits more h = refl
same_whole (suc n) bits more h =
    let first = sym (take-append-le 8 bits more (omega (arith, h))) in
    let rest = sym (drop-append-le 8 bits more (omega (arith, h))) in
    let inner = same_whole n (drop 8 bits) more (omega (arith, h, length-drop 8 bits)) in
    ap (λ (b : List Bool). big_number b ∷ whole_bytes n (drop 8 bits)) first
    ∙ ap (λ (bs : List ℕ). big_number (take 8 (bits ++ more)) ∷ bs) (inner ∙ ap (whole_bytes n) rest)

same_bytes : (more : List Bool) (c : Context) → Well c → bytes_before c ≡ bytes_before (longer more c)
same_bytes more c w =
    same_whole ((c.position - c.first) / 8) (drop c.first c.bits) more (omega (arith, length-drop c.first c.bits, w.start, w.there))
    ∙ ap (whole_bytes ((c.position - c.first) / 8)) (sym (drop-append-le c.first c.bits more (omega (arith, w.start, w.there))))

same_sums : (more : List Bool) (c : Context) → Well c → sight_with_sums c ≡ sight_with_sums (longer more c)
same_sums more c w = ap (λ (bytes : List ℕ). record (sight c) { sum = sum bytes; xor = fold bit_xor 0 bytes }) (same_bytes more c w)

-- ---- nodes

-- a node begun changes nothing else
abbrev BegunOk : List Bool → Context → Context → Context → Type 0
BegunOk more c a b = (longer more a ≡ b) × (a ≡ record c { nodes = c.nodes + 1 })

steady_begun : (more : List Bool) (c : Context) → Steady (BegunOk more c) (begun c).outcome (begun (longer more c)).outcome
steady_begun more c =
    steady_must (BegunOk more c) (nat_lt c.nodes node_limit) (Bad c.position TooLong) _ _ (λ few. (_, refl, (refl, refl)))

steady_number : (more : List Bool) (own : Option ByteOrder) (simple : Simple) → SteadyPart more (number_read own simple)
steady_number more own simple c w =
    steady_then (BegunOk more c) (PartOk c) (begun c).outcome (begun (longer more c)).outcome _ _ (steady_begun more c)
    (λ a b is ok. steady_then (SliceOk (width simple) c) (PartOk c) (bits_at (width simple) c).outcome (bits_at (width simple) (longer more c)).outcome _ _ (steady_bits more (width simple) c)
    (λ x y is slice. (_, refl, record { same = ap (λ (bits : List Bool). number_part own simple c bits) slice.0; onward = omega arith; there = slice.1 })))

steady_bitless : (more : List Bool) (node : Node) → SteadyPart more (bitless node)
steady_bitless more node c w =
    steady_then (BegunOk more c) (PartOk c) (begun c).outcome (begun (longer more c)).outcome _ _ (steady_begun more c)
    (λ a b is ok. (_, refl, record { same = refl; onward = omega arith; there = w.there }))

-- ---- values of types

abbrev SteadyGroups : List Bool → Groups → Type 0
SteadyGroups more groups = (def : ℕ) (args : List ℤ) (last : Bool) → SteadyPart more (groups def args last)

-- what doesn't look at the bits
steady_arguments : (more : List Bool) (d : Description) (args : List Expr) (params : List Param) (c : Context) → Steady (Same {A = List ℤ}) (arguments d args params c).outcome (arguments d args params (longer more c)).outcome
steady_arguments more d [] params c = ([], refl, refl)
steady_arguments more d (arg ∷ args) [] c = ([], refl, refl)
steady_arguments more d (arg ∷ args) (param ∷ params) c =
    steady_then (Same {A = ℤ}) (Same {A = List ℤ}) (evaluated d arg (sight c) c).outcome (evaluated d arg (sight c) c).outcome _ _ (steady_same (evaluated d arg (sight c) c).outcome)
    (λ number other is same. subst (λ (n : ℤ). Steady (Same {A = List ℤ}) (argument_then number c).outcome (argument_then n (longer more c)).outcome) same
    (steady_must (Same {A = List ℤ}) (of_kind d param.kind number) (Bad c.position ValueRange) _ _
    (λ fits. steady_then (Same {A = List ℤ}) (Same {A = List ℤ}) (arguments d args params c).outcome (arguments d args params (longer more c)).outcome _ _ (steady_arguments more d args params c)
    (λ numbers others known alike. (number ∷ others, refl, ap (λ (ns : List ℤ). number ∷ ns) alike)))))
  where
    argument_then : ℤ → Context → Outcome (List ℤ)
    argument_then number at =
        must (of_kind d param.kind number) at ValueRange >> (arguments d args params at >>= (λ numbers. done (number ∷ numbers)))

steady_target : (more : List Bool) (d : Description) (groups : Groups) (own : Option ByteOrder) (args : List Expr) (last : Bool) (target : Target) → SteadyGroups more groups → SteadyPart more (target_read d groups own args last target)
steady_target more d groups own args last (EnumTarget def base) h c w = steady_number more own base c w
steady_target more d groups own args last (GroupTarget def) h c w =
    steady_then (Same {A = List ℤ}) (PartOk c) (arguments d args (params_of d def) c).outcome (arguments d args (params_of d def) (longer more c)).outcome _ _ (steady_arguments more d args (params_of d def) c)
    (λ numbers others is same. subst (λ (ns : List ℤ). Steady (PartOk c) (groups def numbers last c).outcome (groups def ns last (longer more c)).outcome) same (h def numbers last c w))

steady_value : (more : List Bool) (d : Description) (groups : Groups) (own : Option ByteOrder) (kind : Ref) (last : Bool) → SteadyGroups more groups → SteadyPart more (value_read d groups own kind last)
steady_value more d groups own (Plain simple) last h c w = steady_number more own simple c w
steady_value more d groups own (Named place name args) last h c w = steady_target more d groups own args last (target_named d name) h c w

-- ---- items

abbrev SteadyItems : List Bool → Items → Type 0
SteadyItems more items = (last : Bool) → SteadyPart more (items last)

-- behind a part that was read
behind_well : (c : Context) (a : Part) → Well c → c.position ≤ a.end → a.end ≤ length c.bits → Well (behind a c)
behind_well c a w on there = record { start = omega (arith, w.start, on); there = there }

-- one step after another
step_after : (more : List Bool) (c mid : Context) (one other : Result Context Fault) → mid.bits ≡ c.bits → c.position ≤ mid.position → Steady (StepOk more mid) one other → Steady (StepOk more c) one other
step_after more c mid (Err Short) other e on h = tt
step_after more c mid (Err (Bad bit why)) other e on h = h
step_after more c mid (Ok a) other e on h = (h.0, h.1, record { same = h.2.same; bits = h.2.bits ∙ e; onward = omega (arith, on, h.2.onward); well = h.2.well })

done_step : (more : List Bool) (c : Context) → Well c → Steady (StepOk more c) (done {F = Fault} c).outcome (done {F = Fault} (longer more c)).outcome
done_step more c w = (longer more c, refl, record { same = refl; bits = refl; onward = omega arith; well = w })

steady_count : (more : List Bool) (items : Items) → SteadyItems more items → (left : ℕ) → SteadyStep more (items_by_count items left)
steady_count more items h zero c w = done_step more c w
steady_count more items h (suc left) c w =
    steady_then (PartOk c) (StepOk more c) (items (left == 0) c).outcome (items (left == 0) (longer more c)).outcome _ _ (h (left == 0) c w)
    (λ a b is ok. subst (λ (part : Part). Steady (StepOk more c) (item_then a c).outcome (item_then part (longer more c)).outcome) ok.same
    (steady_must (StepOk more c) (nat_lt c.position a.end) (Bad c.position ZeroItem) _ _
    (λ some. step_after more c (behind a c) _ _ refl ok.onward (steady_count more items h left (behind a c) (behind_well c a w ok.onward ok.there)))))
  where
    item_then : Part → Context → Outcome Context
    item_then item at = has_bits at item >> items_by_count items left (behind item at)

steady_length : (more : List Bool) (items : Items) → SteadyItems more items → (end left : ℕ) → SteadyStep more (items_by_length items end left)
steady_length more items h end zero c w = done_step more c w
steady_length more items h end (suc left) c w = go (c.position == end) (steady_length more items h end left)
  where
    item_then : Part → Context → Outcome Context
    item_then item at =
        must (nat_le item.end end) at LengthOverrun >> (has_bits at item >> items_by_length items end left (behind item at))

    item_next : Context → Outcome Context
    item_next at = counted 1 (items false at >>= (λ item. item_then item at))

    go : (b : Bool) → SteadyStep more (items_by_length items end left) → Steady (StepOk more c) (unless b item_next c).outcome (unless b item_next (longer more c)).outcome
    go true rest = done_step more c w
    go false rest =
        steady_then (PartOk c) (StepOk more c) (items false c).outcome (items false (longer more c)).outcome _ _ (h false c w)
        (λ a b is ok. subst (λ (part : Part). Steady (StepOk more c) (item_then a c).outcome (item_then part (longer more c)).outcome) ok.same
        (steady_must (StepOk more c) (nat_le a.end end) (Bad c.position LengthOverrun) _ _
        (λ fits. steady_must (StepOk more c) (nat_lt c.position a.end) (Bad c.position ZeroItem) _ _
        (λ some. step_after more c (behind a c) _ _ refl ok.onward (rest (behind a c) (behind_well c a w ok.onward ok.there))))))

-- ---- arrays

-- so many bytes that were read, up to where they end
record BytesOk (left : ℕ) (c : Context) (a b : List ℕ) : Type 0 where
  same : a ≡ b
  count : length a ≡ left
  there : c.position ≤ length c.bits → c.position + 8 * left ≤ length c.bits

abbrev OpenOk : List Bool → Context → Context → Context → Type 0
OpenOk more c a b = (longer more a ≡ b) × (a ≡ record c { nodes = c.nodes + 1; entries = []; spans = [] })

steady_opened : (more : List Bool) (c : Context) → Steady (OpenOk more c) (opened c).outcome (opened (longer more c)).outcome
steady_opened more c =
    steady_then (BegunOk more c) (OpenOk more c) (begun c).outcome (begun (longer more c)).outcome _ _ (steady_begun more c)
    (λ a b is ok. (_, refl, (ap (λ (x : Context). record x { entries = []; spans = [] }) ok.0, ap (λ (x : Context). record x { entries = []; spans = [] }) ok.1)))

steady_bytes : (more : List Bool) (left : ℕ) (c : Context) → Steady (BytesOk left c) (bytes_read left c).outcome (bytes_read left (longer more c)).outcome
steady_bytes more zero c = ([], refl, record { same = refl; count = refl; there = λ w. omega (arith, w) })
steady_bytes more (suc left) c =
    let next : Context = record c { position = c.position + 8 } in
    steady_then (SliceOk 8 c) (BytesOk (suc left) c) (bits_at 8 c).outcome (bits_at 8 (longer more c)).outcome _ _ (steady_bits more 8 c)
    (λ a b is slice. steady_then (BytesOk left next) (BytesOk (suc left) c) (bytes_read left next).outcome (bytes_read left (longer more next)).outcome _ _ (steady_bytes more left next)
    (λ x y known ok. (
      big_number b ∷ y,
      refl,
      record {
        same = ap (λ (bits : List Bool). big_number bits ∷ x) slice.0 ∙ ap (λ (bytes : List ℕ). big_number b ∷ bytes) ok.same;
        count = ap suc ok.count;
        there = λ w. omega (arith, ok.there slice.1);
      },
    )))

steady_blob : (more : List Bool) (n : ℕ) → SteadyPart more (blob_read n)
steady_blob more n c w =
    steady_then (BegunOk more c) (PartOk c) (begun c).outcome (begun (longer more c)).outcome _ _ (steady_begun more c)
    (λ a b is ok. subst (λ (x : Context). Steady (PartOk c) (blob_then a c).outcome (blob_then x (longer more c)).outcome) ok.0
    (subst (λ (x : Context). Steady (PartOk c) (blob_then x c).outcome (blob_then (longer more x) (longer more c)).outcome) (sym ok.1)
    (steady_then (BytesOk n counted-one) (PartOk c) (bytes_read n counted-one).outcome (bytes_read n (longer more counted-one)).outcome _ _ (steady_bytes more n counted-one)
    (λ x y known good. (_, refl, record { same = ap blob_part good.same; onward = omega arith; there = good.there w.there })))))
  where
    counted-one : Context
    counted-one = record c { nodes = c.nodes + 1 }

    blob_part : List ℕ → Part
    blob_part bytes = record { node = Blob bytes; end = c.position + 8 * n; spans = span c.position (c.position + 8 * n) ∷ [] }

    blob_then : Context → Context → Outcome Part
    blob_then at from = bytes_read n at >>= (λ bytes. done (record { node = Blob bytes; end = from.position + 8 * n; spans = span from.position (from.position + 8 * n) ∷ [] }))

-- a list is what its items' steps make
steady_list : (more : List Bool) (steps : Context → Outcome Context) → SteadyStep more steps → (c : Context) → Well c → Steady (PartOk c) (opened c >>= (λ at. steps at >>= (λ end. done (closed c.position ListNode end)))).outcome (opened (longer more c) >>= (λ at. steps at >>= (λ end. done (closed (longer more c).position ListNode end)))).outcome
steady_list more steps h c w =
    let from : Context = record c { nodes = c.nodes + 1; entries = []; spans = [] } in
    steady_then (OpenOk more c) (PartOk c) (opened c).outcome (opened (longer more c)).outcome _ _ (steady_opened more c)
    (λ a b is ok. subst (λ (x : Context). Steady (PartOk c) (list_then a).outcome (list_then x).outcome) ok.0
    (subst (λ (x : Context). Steady (PartOk c) (list_then x).outcome (list_then (longer more x)).outcome) (sym ok.1)
    (steady_then (StepOk more from) (PartOk c) (steps from).outcome (steps (longer more from)).outcome _ _ (h from (record { start = w.start; there = w.there }))
    (λ x y known good. (
      _,
      refl,
      record {
        same = ap (λ (end : Context). closed c.position ListNode end) good.same;
        onward = good.onward;
        there = subst (λ (bits : List Bool). x.position ≤ length bits) good.bits good.well.there;
      },
    )))))
  where
    list_then : Context → Outcome Part
    list_then at = steps at >>= (λ end. done (closed c.position ListNode end))

steady_count_array : (more : List Bool) (d : Description) (groups : Groups) (own : Option ByteOrder) (kind : Ref) (n : ℕ) → SteadyGroups more groups → SteadyPart more (array_by_count d groups own kind n)
steady_count_array more d groups own (Plain Byte) n h c w = steady_blob more n c w
steady_count_array more d groups own (Plain Bit) n h c w =
    steady_list more (items_by_count (value_read d groups own (Plain Bit)) n) (steady_count more (value_read d groups own (Plain Bit)) (λ last. steady_value more d groups own (Plain Bit) last h) n) c w
steady_count_array more d groups own (Plain (Uint bits)) n h c w =
    steady_list more (items_by_count (value_read d groups own (Plain (Uint bits))) n) (steady_count more (value_read d groups own (Plain (Uint bits))) (λ last. steady_value more d groups own (Plain (Uint bits)) last h) n) c w
steady_count_array more d groups own (Plain (Int bits)) n h c w =
    steady_list more (items_by_count (value_read d groups own (Plain (Int bits))) n) (steady_count more (value_read d groups own (Plain (Int bits))) (λ last. steady_value more d groups own (Plain (Int bits)) last h) n) c w
steady_count_array more d groups own (Plain (Float bits)) n h c w =
    steady_list more (items_by_count (value_read d groups own (Plain (Float bits))) n) (steady_count more (value_read d groups own (Plain (Float bits))) (λ last. steady_value more d groups own (Plain (Float bits)) last h) n) c w
steady_count_array more d groups own (Named place name args) n h c w =
    steady_list more (items_by_count (value_read d groups own (Named place name args)) n) (steady_count more (value_read d groups own (Named place name args)) (λ last. steady_value more d groups own (Named place name args) last h) n) c w

list_of_length : (more : List Bool) (items : Items) (n : ℕ) → SteadyItems more items → SteadyPart more (list_by_length items n)
list_of_length more items n h c w =
    steady_list more (items_by_length items (c.position + 8 * n) (8 * n)) (steady_length more items h (c.position + 8 * n) (8 * n)) c w

steady_length_array : (more : List Bool) (d : Description) (groups : Groups) (own : Option ByteOrder) (kind : Ref) (n : ℕ) → SteadyGroups more groups → SteadyPart more (array_by_length d groups own kind n)
steady_length_array more d groups own (Plain Byte) n h c w = steady_blob more n c w
steady_length_array more d groups own (Plain Bit) n h c w = list_of_length more (value_read d groups own (Plain Bit)) n (λ last. steady_value more d groups own (Plain Bit) last h) c w
steady_length_array more d groups own (Plain (Uint bits)) n h c w = list_of_length more (value_read d groups own (Plain (Uint bits))) n (λ last. steady_value more d groups own (Plain (Uint bits)) last h) c w
steady_length_array more d groups own (Plain (Int bits)) n h c w = list_of_length more (value_read d groups own (Plain (Int bits))) n (λ last. steady_value more d groups own (Plain (Int bits)) last h) c w
steady_length_array more d groups own (Plain (Float bits)) n h c w = list_of_length more (value_read d groups own (Plain (Float bits))) n (λ last. steady_value more d groups own (Plain (Float bits)) last h) c w
steady_length_array more d groups own (Named place name args) n h c w = list_of_length more (value_read d groups own (Named place name args)) n (λ last. steady_value more d groups own (Named place name args) last h) c w

-- ---- the kinds of fields

-- what comes behind a number that doesn't hang on the bits
behind_same : {A B : Type 0} (good : B → B → Type 0) (one : Counted A Fault) (next after : A → Counted B Fault) → ((a : A) → Steady good (next a).outcome (after a).outcome) → Steady good (one >>= next).outcome (one >>= after).outcome
behind_same {A} good one next after h =
    steady_then (Same {A = A}) good one.outcome one.outcome next after (steady_same one.outcome)
    (λ a b is same. subst (λ (x : A). Steady good (next a).outcome (after x).outcome) same (h a))

in_range_same : (more : List Bool) (n : ℤ) (c : Context) → in_count_range n (longer more c) ≡ in_count_range n c
in_range_same more (pos n) c = refl
in_range_same more (negsuc n) c = refl

steady_count_read : (more : List Bool) (d : Description) (count : Expr) (c : Context) → Steady (Same {A = ℕ}) (count_read d count c).outcome (count_read d count (longer more c)).outcome
steady_count_read more d count c =
    behind_same (Same {A = ℕ}) (evaluated d count (sight c) c) (λ n. in_count_range n c) (λ n. in_count_range n (longer more c)) (λ n.
    subst (λ (x : Outcome ℕ). Steady (Same {A = ℕ}) (in_count_range n c).outcome x.outcome) (sym (in_range_same more n c)) (steady_same (in_count_range n c).outcome))

-- what comes behind a count
steady_counted : (more : List Bool) (d : Description) (count : Expr) (next : ℕ → Context → Outcome Part) → ((n : ℕ) → SteadyPart more (next n)) → SteadyPart more (λ c. count_read d count c >>= (λ n. next n c))
steady_counted more d count next h c w =
    steady_then (Same {A = ℕ}) (PartOk c) (count_read d count c).outcome (count_read d count (longer more c)).outcome (λ n. next n c) (λ n. next n (longer more c)) (steady_count_read more d count c)
    (λ n m is same. subst (λ (x : ℕ). Steady (PartOk c) (next n c).outcome (next x (longer more c)).outcome) same (h n c w))

steady_must_be : (more : List Bool) (number : ℤ) (c : Context) (why : ReadWhy) (a b : Part) → PartOk c a b → Steady (PartOk c) (must_be number c why a).outcome (must_be number (longer more c) why b).outcome
steady_must_be more number c why a b ok =
    subst (λ (x : Part). Steady (PartOk c) (must_be number c why a).outcome (must_be number (longer more c) why x).outcome) ok.same
    (steady_must (PartOk c) (number_is number (out-Node a.node)) (Bad c.position why) _ _ (λ is. (a, refl, record { same = refl; onward = ok.onward; there = ok.there })))

steady_const : (more : List Bool) (own : Option ByteOrder) (simple : Simple) (value : Lit) → SteadyPart more (const_read own simple value)
steady_const more own simple value c w =
    steady_then (PartOk c) (PartOk c) (number_read own simple c).outcome (number_read own simple (longer more c)).outcome _ _ (steady_number more own simple c w)
    (λ a b is ok. steady_must_be more (literal value) c ConstMismatch a b ok)

steady_virtual : (more : List Bool) (d : Description) (kind : Ref) (value : Expr) → SteadyPart more (virtual_read d kind value)
steady_virtual more d kind value c w =
    behind_same (PartOk c) (evaluated d value (sight c) c) _ _ (λ number.
    steady_must (PartOk c) (of_kind d kind number) (Bad c.position ValueRange) _ _ (λ fits. steady_bitless more (kind_node d kind number) c w))

steady_present : (more : List Bool) (d : Description) (groups : Groups) (own : Option ByteOrder) (kind : Ref) (absent : Bool) → SteadyGroups more groups → SteadyPart more (present_read d groups own kind absent)
steady_present more d groups own kind true h c w = steady_bitless more Absent c w
steady_present more d groups own kind false h c w = steady_value more d groups own kind false h c w

steady_optional : (more : List Bool) (d : Description) (groups : Groups) (own : Option ByteOrder) (kind : Ref) (condition : Expr) → SteadyGroups more groups → SteadyPart more (optional_read d groups own kind condition)
steady_optional more d groups own kind condition h c w =
    behind_same (PartOk c) (evaluated d condition (sight c) c) _ _ (λ holds. steady_present more d groups own kind (int_eq holds (pos 0)) h c w)

steady_checksum : (more : List Bool) (d : Description) (own : Option ByteOrder) (simple : Simple) (value : Expr) → SteadyPart more (checksum_read d own simple value)
steady_checksum more d own simple value c w =
    subst (λ (seen : Sight). Steady (PartOk c) (checksum_read d own simple value c).outcome (evaluated d value seen (longer more c) >>= then_number (longer more c)).outcome) (same_sums more c w)
    (behind_same (PartOk c) (evaluated d value (sight_with_sums c) c) (then_number c) (then_number (longer more c)) (λ number.
    steady_then (PartOk c) (PartOk c) (number_read own simple c).outcome (number_read own simple (longer more c)).outcome _ _ (steady_number more own simple c w)
    (λ a b is ok. steady_must_be more number c ChecksumMismatch a b ok)))
  where
    then_number : Context → ℤ → Outcome Part
    then_number at number = number_read own simple at >>= (λ part. must_be number at ChecksumMismatch part)

steady_padding : (more : List Bool) (d : Description) (own : Option ByteOrder) (simple : Simple) (count : Expr) → SteadyPart more (padding_read d own simple count)
steady_padding more d own simple count =
    steady_counted more d count (λ n. list_by_count (λ last. number_read own simple) n) (λ n c w.
    steady_list more (items_by_count (λ last. number_read own simple) n) (steady_count more (λ last. number_read own simple) (λ last. steady_number more own simple) n) c w)

steady_body : (more : List Bool) (d : Description) (groups : Groups) (own : Option ByteOrder) (body : BodyLayer) → SteadyGroups more groups → SteadyPart more (body_read d groups own body)
steady_body more d groups own (Body-F.Simple kind) h c w = steady_value more d groups own kind false h c w
steady_body more d groups own (Body-F.Discriminator kind) h c w = steady_value more d groups own kind false h c w
steady_body more d groups own (Body-F.Const simple value) h c w = steady_const more own simple value c w
steady_body more d groups own (Body-F.Reserved simple value) h c w = steady_number more own simple c w
steady_body more d groups own (Body-F.Implicit kind value) h c w = steady_value more d groups own kind false h c w
steady_body more d groups own (Body-F.Virtual kind value) h c w = steady_virtual more d kind value c w
steady_body more d groups own (Body-F.Optional kind condition) h c w = steady_optional more d groups own kind condition h c w
steady_body more d groups own (Body-F.Checksum simple value) h c w = steady_checksum more d own simple value c w
steady_body more d groups own (Body-F.Padding simple value count) h c w = steady_padding more d own simple count c w
steady_body more d groups own (Body-F.CountArray kind count) h c w =
    steady_counted more d count (λ n. array_by_count d groups own kind n) (λ n. steady_count_array more d groups own kind n h) c w
steady_body more d groups own (Body-F.LengthArray kind bytes) h c w =
    steady_counted more d bytes (λ n. array_by_length d groups own kind n) (λ n. steady_length_array more d groups own kind n h) c w
steady_body more d groups own (Body-F.Switch names cases) h c w = refl

-- ---- fields, one after another

steady_field : (more : List Bool) (d : Description) (groups : Groups) (field : Field) → SteadyGroups more groups → SteadyStep more (field_read d groups field)
steady_field more d groups field h c w =
    steady_then (PartOk c) (StepOk more c) (body_read d groups (out-Field field).order (layer field) c).outcome (body_read d groups (out-Field field).order (layer field) (longer more c)).outcome _ _ (steady_body more d groups (out-Field field).order (layer field) h c w)
    (λ a b is ok. subst (λ (x : Part). Steady (StepOk more c) (done {F = Fault} (field_behind a c)).outcome (done {F = Fault} (field_behind x (longer more c))).outcome) ok.same
    (field_behind a (longer more c), refl, record { same = refl; bits = refl; onward = ok.onward; well = record { start = omega (arith, w.start, ok.onward); there = ok.there } }))
  where
    field_behind : Part → Context → Context
    field_behind part at = seen_too (out-Field field).name (field_meant d field) part.node (behind part at)

steady_turn : (more : List Bool) (step : Field → Context → Outcome Context) → ((field : Field) → SteadyStep more (step field)) → (fields : List Field) → SteadyStep more (in_turn step fields)
steady_turn more step h [] c w = done_step more c w
steady_turn more step h (field ∷ fields) c w =
    steady_then (StepOk more c) (StepOk more c) (step field c).outcome (step field (longer more c)).outcome (in_turn step fields) (in_turn step fields) (h field c w)
    (λ a b is ok. subst (λ (x : Context). Steady (StepOk more c) (in_turn step fields a).outcome (in_turn step fields x).outcome) ok.same
    (step_after more c a _ _ ok.bits ok.onward (steady_turn more step h fields a ok.well)))

steady_case : (more : List Bool) (d : Description) (names : List (List ℕ)) (cases : List Case) (c : Context) → Steady (Same {A = ℕ}) (case_read d names cases c).outcome (case_read d names cases (longer more c)).outcome
steady_case more d names cases c =
    behind_same (Same {A = ℕ}) (faulted (λ f. Bad c.position (read_why f)) (first_case d names c.names 1 cases)) (case_or_none c) (case_or_none (longer more c)) (λ found. found_same found)
  where
    found_same : (found : Option ℕ) → Steady (Same {A = ℕ}) (case_or_none c found).outcome (case_or_none (longer more c) found).outcome
    found_same (Some number) = (number, refl, refl)
    found_same None = refl

steady_switch : (more : List Bool) (d : Description) (groups : Groups) (names : List (List ℕ)) (cases : List Case) → SteadyGroups more groups → SteadyStep more (switch_read d groups names cases)
steady_switch more d groups names cases h c w =
    steady_then (Same {A = ℕ}) (StepOk more c) (case_read d names cases c).outcome (case_read d names cases (longer more c)).outcome _ _ (steady_case more d names cases c)
    (λ k m is same. subst (λ (x : ℕ). Steady (StepOk more c) (case_then k c).outcome (case_then x (longer more c)).outcome) same
    (steady_then (StepOk more c) (StepOk more c) (in_turn (field_read d groups) (case_fields k cases) c).outcome (in_turn (field_read d groups) (case_fields k cases) (longer more c)).outcome _ _
    (steady_turn more (field_read d groups) (λ field. steady_field more d groups field h) (case_fields k cases) c w)
    (λ a b known ok. (
      _,
      refl,
      record {
        same = ap (λ (end : Context). record end { case = k; names = c.names }) ok.same;
        bits = ok.bits;
        onward = ok.onward;
        well = record { start = ok.well.start; there = ok.well.there };
      },
    ))))
  where
    case_then : ℕ → Context → Outcome Context
    case_then k at = in_turn (field_read d groups) (case_fields k cases) at >>= (λ end. done (record end { case = k; names = at.names }))

steady_any : (more : List Bool) (d : Description) (groups : Groups) (field : Field) (body : BodyLayer) → SteadyGroups more groups → SteadyStep more (any_field_read d groups field body)
steady_any more d groups field (Body-F.Switch names cases) h c w = steady_switch more d groups names cases h c w
steady_any more d groups field (Body-F.Simple kind) h c w = steady_field more d groups field h c w
steady_any more d groups field (Body-F.Discriminator kind) h c w = steady_field more d groups field h c w
steady_any more d groups field (Body-F.Const simple value) h c w = steady_field more d groups field h c w
steady_any more d groups field (Body-F.Reserved simple value) h c w = steady_field more d groups field h c w
steady_any more d groups field (Body-F.Implicit kind value) h c w = steady_field more d groups field h c w
steady_any more d groups field (Body-F.Virtual kind value) h c w = steady_field more d groups field h c w
steady_any more d groups field (Body-F.Optional kind condition) h c w = steady_field more d groups field h c w
steady_any more d groups field (Body-F.Checksum simple value) h c w = steady_field more d groups field h c w
steady_any more d groups field (Body-F.Padding simple value count) h c w = steady_field more d groups field h c w
steady_any more d groups field (Body-F.CountArray kind count) h c w = steady_field more d groups field h c w
steady_any more d groups field (Body-F.LengthArray kind bytes) h c w = steady_field more d groups field h c w

-- ---- groups

steady_group : (more : List Bool) (d : Description) (groups : Groups) → SteadyGroups more groups → SteadyGroups more (group_read d groups)
steady_group more d groups h def args last c w =
    steady_then (BegunOk more c) (PartOk c) (begun c).outcome (begun (longer more c)).outcome _ _ (steady_begun more c)
    (λ a b is ok. subst (λ (x : Context). Steady (PartOk c) (group_then a).outcome (group_then x).outcome) ok.0
    (subst (λ (x : Context). Steady (PartOk c) (group_then x).outcome (group_then (longer more x)).outcome) (sym ok.1)
    (steady_then (StepOk more from) (PartOk c) (steps from).outcome (steps (longer more from)).outcome _ _ (steady_turn more each (λ field. steady_any more d groups field (layer field) h) (fields_of d def) from (record { start = omega arith; there = w.there }))
    (λ x y known good. (
      _,
      refl,
      record {
        same = ap (λ (end : Context). closed c.position (Group end.case) end) good.same;
        onward = good.onward;
        there = subst (λ (bits : List Bool). x.position ≤ length bits) good.bits good.well.there;
      },
    )))))
  where
    each : Field → Context → Outcome Context
    each field = any_field_read d groups field (layer field)

    steps : Context → Outcome Context
    steps = in_turn each (fields_of d def)

    from : Context
    from = group_begun d def args last (record c { nodes = c.nodes + 1 })

    group_then : Context → Outcome Part
    group_then at = steps (group_begun d def args last at) >>= (λ end. done (closed c.position (Group end.case) end))

steady_read : (depth : ℕ) (more : List Bool) (d : Description) → SteadyGroups more (read_to depth d)
steady_read zero more d def args last c w =
    steady_then (BegunOk more c) (PartOk c) (begun c).outcome (begun (longer more c)).outcome _ _ (steady_begun more c)
    (λ a b is ok. subst (λ (x : Context). Steady (PartOk c) (bad {A = Part} a TooDeep).outcome (bad {A = Part} x TooDeep).outcome) ok.0 refl)
steady_read (suc depth) more d def args last c w = steady_group more d (read_to depth d) (steady_read depth more d) def args last c w

-- ---- the whole value

abbrev ReadingOk : Reading → Reading → Type 0
ReadingOk a b = a ≡ b

steady_reads : (d : Description) (def : ℕ) (args : List ℤ) (bits more : List Bool) → Steady ReadingOk (reads d def args bits) (reads d def args (bits ++ more))
steady_reads d def args bits more =
    steady_then (PartOk (at_start bits)) ReadingOk (read_to depth_limit d def args false (at_start bits)).outcome (read_to depth_limit d def args false (at_start (bits ++ more))).outcome (λ part. done (whole part)) (λ part. done (whole part))
    (steady_read depth_limit more d def args false (at_start bits) (record { start = omega arith; there = omega arith }))
    (λ a b is ok. (whole b, refl, ap whole ok.same))

pub same_reading : (d : Description) (def : ℕ) (args : List ℤ) (bits more : List Bool) (reading : Reading) → reads d def args bits ≡ Ok reading → reads d def args (bits ++ more) ≡ Ok reading
same_reading d def args bits more reading e =
    let h = subst (λ (r : Result Reading Fault). Steady ReadingOk r (reads d def args (bits ++ more))) e (steady_reads d def args bits more) in
    h.1 ∙ ap (λ (r : Reading). Ok r) (sym h.2)

pub same_refusal : (d : Description) (def : ℕ) (args : List ℤ) (bits more : List Bool) (bit : ℕ) (why : ReadWhy) → reads d def args bits ≡ Err (Bad bit why) → reads d def args (bits ++ more) ≡ Err (Bad bit why)
same_refusal d def args bits more bit why e =
    subst (λ (r : Result Reading Fault). Steady ReadingOk r (reads d def args (bits ++ more))) e (steady_reads d def args bits more)
