-- The entries of a node in preorder, each with the form that its field asks for; and the first that isn't as it must be.
use Rattle.std.specs.Prelude.{ℕ, zero, suc, ◌+◌, ◌^◌, ◌==◌, ◌&&◌, Bool, true, false, not, List, [], ◌∷◌, ◌++◌, length, map, sum_by, find, nat_lt, nat_le, Option, Some, None}
use Rattle.node_tree.specs.declared.nodes.Node.{Node, out-Node}
use Rattle.node_tree.specs.declared.nodes.Node.TheOpen.{Node-F}
use Rattle.mspec_tree.specs.declared.words.Simple.{Simple}
use Rattle.mspec_tree.specs.declared.words.Simple.TheVariants.{Bit, Byte, Uint, Int, Float}
use Rattle.mspec_tree.specs.declared.exprs.Ref.{Ref}
use Rattle.mspec_tree.specs.declared.exprs.Ref.TheVariants.{Plain, Named}
use Rattle.mspec_tree.specs.declared.fields.Body.TheOpen.{Body-F}
use Rattle.mspec_tree.specs.declared.defs.Description.{Description}
use Rattle.mspec_expr.specs.declared.kinds.Target.{Target}
use Rattle.mspec_expr.specs.declared.kinds.Target.TheVariants.{Enum as EnumTarget, Group as GroupTarget}
use Rattle.mspec_expr.specs.Kinds.{target_named, BodyLayer, layer, of_type, fields_of, cases_of, entry_fields}
use Rattle.mspec_expr.specs.Values.{NodeLayer}
use Rattle.mspec_expr.specs.Sizes.{node_limit, depth_limit}

-- ---- how many nodes

abbrev pub layer_nodes : (nodes : Node → ℕ) → NodeLayer → ℕ
layer_nodes nodes (Node-F.List items) = 1 + sum_by nodes items
layer_nodes nodes (Node-F.Group case entries) = 1 + sum_by nodes entries
layer_nodes nodes other = 1

-- of a node that nests so deep; a deeper one has more nodes than that
abbrev pub nodes_to : (depth : ℕ) → Node → ℕ
nodes_to zero node = 1
nodes_to (suc depth) node = layer_nodes (nodes_to depth) (out-Node node)

-- how many nodes a node has, itself too, or more than the greatest number of them
abbrev pub nodes_in : Node → ℕ
nodes_in node = nodes_to node_limit node

-- ---- forms

-- what may stand in an entry: a number of a type, a group of a definition, bytes, or a list of items of such a form
pub data Form : Type 0 where
  Number : (simple : Simple) → Form
  GroupOf : (def : ℕ) → Form
  Bytes : Form
  ListOf : (item : Form) → Form

-- The form of an entry, and whether it may be unset or absent. `tested` is whether its numbers are held against their types
-- before anything is written.
pub record Slot : Type 0 where
  pub form : Form
  pub unset : Bool
  pub absent : Bool
  pub tested : Bool

abbrev pub target_form : Target → Form
target_form (EnumTarget def base) = Number base
target_form (GroupTarget def) = GroupOf def

abbrev pub kind_form : Description → Ref → Form
kind_form d (Plain simple) = Number simple
kind_form d (Named place name args) = target_form (target_named d name)

abbrev pub array_form : Description → Ref → Form
array_form d (Plain Byte) = Bytes
array_form d kind = ListOf (kind_form d kind)

-- a slot that takes a value alone, one that may be unset, and one that may be absent
abbrev pub given : Form → Slot
given form = record { form = form; unset = false; absent = false; tested = true }

abbrev pub computed : Form → Slot
computed form = record { form = form; unset = true; absent = false; tested = false }

abbrev pub maybe : Form → Slot
maybe form = record { form = form; unset = false; absent = true; tested = true }

abbrev pub body_slot : Description → BodyLayer → Slot
body_slot d (Body-F.Simple kind) = given (kind_form d kind)
body_slot d (Body-F.Discriminator kind) = given (kind_form d kind)
body_slot d (Body-F.Const simple value) = computed (Number simple)
body_slot d (Body-F.Reserved simple value) = computed (Number simple)
body_slot d (Body-F.Implicit kind value) = computed (kind_form d kind)
body_slot d (Body-F.Virtual kind value) = computed (kind_form d kind)
body_slot d (Body-F.Optional kind condition) = maybe (kind_form d kind)
body_slot d (Body-F.Checksum simple value) = computed (Number simple)
body_slot d (Body-F.Padding simple value count) = computed (ListOf (Number simple))
body_slot d (Body-F.CountArray kind count) = given (array_form d kind)
body_slot d (Body-F.LengthArray kind length) = given (array_form d kind)
body_slot d (Body-F.Switch names cases) = given Bytes

-- an item of such an entry
abbrev pub item_slot : Slot → Form → Slot
item_slot slot item = record { form = item; unset = false; absent = false; tested = slot.tested }

-- a type without a switch has case 0 alone, another one the numbers of its cases
abbrev pub has_case : (cases case : ℕ) → Bool
has_case zero case = case == 0
has_case (suc more) case = nat_lt 0 case && nat_le case (suc more)

abbrev pub group_has_form : Description → (def case : ℕ) → (entries : List Node) → Bool
group_has_form d def case entries =
    has_case (length (cases_of d def)) case && length entries == length (entry_fields case (fields_of d def))

abbrev pub has_form : Description → Form → NodeLayer → Bool
has_form d (Number Bit) (Node-F.Flag flag) = true
has_form d (Number Byte) (Node-F.Num number) = true
has_form d (Number (Uint width)) (Node-F.Num number) = true
has_form d (Number (Int width)) (Node-F.Num number) = true
has_form d (Number (Float width)) (Node-F.Raw bits raw) = raw == width
has_form d (GroupOf def) (Node-F.Group case entries) = group_has_form d def case entries
has_form d Bytes (Node-F.Blob bytes) = true
has_form d (ListOf item) (Node-F.List items) = true
has_form d form other = false

abbrev pub fills : Description → Slot → NodeLayer → Bool
fills d slot Node-F.Unset = slot.unset
fills d slot Node-F.Absent = slot.absent
fills d slot other = has_form d slot.form other

-- ---- visits

-- an entry: its number in preorder, its slot, the groups that are open there, itself too, and its node
pub record Visit : Type 0 where
  pub entry : ℕ
  pub slot : Slot
  pub depth : ℕ
  pub node : Node

-- the entries at and below one, by its slot, its number and the groups that are open around it
abbrev pub Visits : Type 0
Visits = Slot → (entry depth : ℕ) → Node → List Visit

abbrev pub visits_each : Visits → List Slot → (entry depth : ℕ) → List Node → List Visit
visits_each visits (slot ∷ slots) entry depth (node ∷ nodes) =
    visits slot entry depth node ++ visits_each visits slots (entry + nodes_in node) depth nodes
visits_each visits slots entry depth nodes = []

abbrev pub group_slots : Description → (def case : ℕ) → List Slot
group_slots d def case = map (λ field. body_slot d (layer field)) (entry_fields case (fields_of d def))

-- below a node of another form there is nothing to visit
abbrev pub visits_below : Description → Visits → Slot → Form → (entry depth : ℕ) → NodeLayer → List Visit
visits_below d visits slot (ListOf item) entry depth (Node-F.List items) =
    visits_each visits (map (λ node. item_slot slot item) items) (entry + 1) depth items
visits_below d visits slot (GroupOf def) entry depth (Node-F.Group case entries) =
    visits_each visits (group_slots d def case) (entry + 1) (depth + 1) entries
visits_below d visits slot form entry depth other = []

abbrev pub depth_of : NodeLayer → (depth : ℕ) → ℕ
depth_of (Node-F.Group case entries) depth = depth + 1
depth_of other depth = depth

abbrev pub visits_to : (deep : ℕ) → Description → Visits
visits_to zero d slot entry depth node = []
visits_to (suc deep) d slot entry depth node =
    record { entry = entry; slot = slot; depth = depth_of (out-Node node) depth; node = node }
    ∷ visits_below d (visits_to deep d) slot slot.form entry depth (out-Node node)

-- all entries of a value of the definition at this place
abbrev pub visits : Description → (def : ℕ) → Node → List Visit
visits d def node = visits_to node_limit d (given (GroupOf def)) 0 0 node

-- ---- what may be wrong with an entry before anything is written

abbrev pub has_wrong_form : Description → Visit → Bool
has_wrong_form d visit = not (fills d visit.slot (out-Node visit.node))

-- a number isn't one of its type; a flag always is
abbrev pub out_of_type : Form → NodeLayer → Bool
out_of_type (Number simple) (Node-F.Num number) = not (of_type simple number)
out_of_type (Number simple) (Node-F.Raw bits width) = not (nat_lt bits (2 ^ width))
out_of_type form other = false

abbrev pub has_wrong_number : Visit → Bool
has_wrong_number visit = visit.slot.tested && out_of_type visit.slot.form (out-Node visit.node)

-- a group under as many groups as may stand in one another
abbrev pub is_group : NodeLayer → Bool
is_group (Node-F.Group case entries) = true
is_group other = false

abbrev pub is_too_deep : Visit → Bool
is_too_deep visit = is_group (out-Node visit.node) && nat_lt depth_limit visit.depth

abbrev pub entry_of : Option Visit → Option ℕ
entry_of (Some visit) = Some visit.entry
entry_of None = None

-- the number of the first entry that is so
abbrev pub first_entry : (Visit → Bool) → List Visit → Option ℕ
first_entry test all = entry_of (find test all)
