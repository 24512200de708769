-- What the simulated device answers: the functions of the MODBUS Application Protocol V1.1b3, in the frames of the Messaging guide V1.0b.
-- A frame is a reference of two bytes, two bytes of zero, the count of the bytes that follow in two bytes, the unit, the function, and
-- the function's fields.
use Rattle.std.specs.Prelude.{ℕ, zero, suc, ◌+◌, ◌*◌, ◌/◌, ◌&&◌, ◌||◌, ◌==◌, nat_le, Bool, true, false, if◌then◌else◌, List, [], ◌∷◌, ◌++◌, length, take, drop, slice_index, Option, Some, None}
use Rattle.std.specs.Int.{w16, to_be_bytes}
use Rattle.std.specs.List.{flat_map}
use Rattle.node_tree.specs.Bits.{digit}
use Rattle.wire_frames.specs.RawFrames.{number_at}
use Rattle.plc_sim.specs.declared.functions.Function.{Function}
use Rattle.plc_sim.specs.declared.functions.Function.TheVariants.{ReadCoils, ReadDiscrete, ReadHolding, ReadInput, WriteCoil, WriteRegister, WriteCoils, WriteRegisters}
use Rattle.plc_sim.specs.declared.images.Image.{Image}

abbrev pub is_between : (least most n : ℕ) → Bool
is_between least most n = nat_le least n && nat_le n most

-- ---- the fields of a request

-- the functions that the device knows
abbrev pub function_numbered : ℕ → Option Function
function_numbered n =
    if n == 1 then Some ReadCoils else
    if n == 2 then Some ReadDiscrete else
    if n == 3 then Some ReadHolding else
    if n == 4 then Some ReadInput else
    if n == 5 then Some WriteCoil else
    if n == 6 then Some WriteRegister else
    if n == 15 then Some WriteCoils else
    if n == 16 then Some WriteRegisters else
    None

abbrev pub function_byte : List ℕ → ℕ
function_byte frame = slice_index frame 7

abbrev pub address : List ℕ → ℕ
address frame = number_at frame 8

-- how many coils, inputs or registers; where one is written, the value
abbrev pub quantity : List ℕ → ℕ
quantity frame = number_at frame 10

-- how many bytes of values a write of several has
abbrev pub byte_count : List ℕ → ℕ
byte_count frame = slice_index frame 12

-- the header's numbers are those of a request with all its bytes
abbrev pub has_header : List ℕ → Bool
has_header frame = nat_le 12 (length frame) && ((number_at frame 2 == 0) && (number_at frame 4 + 6 == length frame))

-- the fields are all of the function's, and nothing stands behind them
abbrev pub has_fields : Function → List ℕ → Bool
has_fields WriteCoils frame = nat_le 13 (length frame) && (length frame == 13 + byte_count frame)
has_fields WriteRegisters frame = nat_le 13 (length frame) && (length frame == 13 + byte_count frame)
has_fields other frame = length frame == 12

abbrev pub with_fields : List ℕ → Option Function → Option Function
with_fields frame (Some function) = if has_fields function frame then Some function else None
with_fields frame None = None

-- the function of which bytes are a request
abbrev pub requested : List ℕ → Option Function
requested frame = if has_header frame then with_fields frame (function_numbered (function_byte frame)) else None

-- ---- when a request is refused

-- the quantity is one of the function's, the bytes are as many as it needs, and a coil is on or off
abbrev pub is_value : Function → List ℕ → Bool
is_value ReadCoils frame = is_between 1 2000 (quantity frame)
is_value ReadDiscrete frame = is_between 1 2000 (quantity frame)
is_value ReadHolding frame = is_between 1 125 (quantity frame)
is_value ReadInput frame = is_between 1 125 (quantity frame)
is_value WriteCoil frame = (quantity frame == 65280) || (quantity frame == 0)
is_value WriteRegister frame = true
is_value WriteCoils frame = is_between 1 1968 (quantity frame) && (byte_count frame == (quantity frame + 7) / 8)
is_value WriteRegisters frame = is_between 1 123 (quantity frame) && (byte_count frame == 2 * quantity frame)

-- how many items from the address on
abbrev pub item_count : Function → List ℕ → ℕ
item_count WriteCoil frame = 1
item_count WriteRegister frame = 1
item_count other frame = quantity frame

-- how many items the function's list has
abbrev pub list_size : Image → Function → ℕ
list_size image ReadCoils = length image.coils
list_size image ReadDiscrete = length image.discrete
list_size image ReadHolding = length image.holding
list_size image ReadInput = length image.input
list_size image WriteCoil = length image.coils
list_size image WriteRegister = length image.holding
list_size image WriteCoils = length image.coils
list_size image WriteRegisters = length image.holding

abbrev pub is_inside : Image → Function → List ℕ → Bool
is_inside image function frame = nat_le (address frame + item_count function frame) (list_size image function)

-- ---- answers

-- the number of up to eight flags, the first one its lowest bit
abbrev pub packed_byte : List Bool → ℕ
packed_byte [] = 0
packed_byte (flag ∷ flags) = digit flag + 2 * packed_byte flags

-- flags in so many bytes, eight in each; what is spare in the last byte is 0
abbrev pub packed : (bytes : ℕ) → List Bool → List ℕ
packed zero flags = []
packed (suc bytes) flags = packed_byte (take 8 flags) ∷ packed bytes (drop 8 flags)

-- the bytes of some items of a list
abbrev pub flag_bytes : (from count : ℕ) → List Bool → List ℕ
flag_bytes from count flags = packed ((count + 7) / 8) (take count (drop from flags))

abbrev pub word_bytes : (from count : ℕ) → List ℕ → List ℕ
word_bytes from count words = flat_map (to_be_bytes w16) (take count (drop from words))

-- how many bytes, and the bytes
abbrev pub with_count : List ℕ → List ℕ
with_count bytes = length bytes ∷ bytes

-- what stands behind the function in an answer: the values that are read; of a write the address, and the value or the quantity
abbrev pub answer_fields : Image → Function → List ℕ → List ℕ
answer_fields image ReadCoils frame = with_count (flag_bytes (address frame) (quantity frame) image.coils)
answer_fields image ReadDiscrete frame = with_count (flag_bytes (address frame) (quantity frame) image.discrete)
answer_fields image ReadHolding frame = with_count (word_bytes (address frame) (quantity frame) image.holding)
answer_fields image ReadInput frame = with_count (word_bytes (address frame) (quantity frame) image.input)
answer_fields image other frame = take 4 (drop 8 frame)

-- a frame with the request's reference and unit
abbrev pub framed : (request : List ℕ) → List ℕ → List ℕ
framed request rest = take 4 request ++ to_be_bytes w16 (1 + length rest) ++ slice_index request 6 ∷ rest

-- a refusal has the function with its highest bit set, and the exception's number
abbrev pub exception : List ℕ → (code : ℕ) → List ℕ
exception frame code = framed frame ((128 + function_byte frame) ∷ code ∷ [])

abbrev pub illegal_address : ℕ
illegal_address = 2

abbrev pub illegal_value : ℕ
illegal_value = 3

-- an illegal value is told before an illegal address
abbrev pub answered : Image → Function → List ℕ → List ℕ
answered image function frame =
    if is_value function frame then
    if is_inside image function frame then framed frame (function_byte frame ∷ answer_fields image function frame)
    else exception frame illegal_address
    else exception frame illegal_value

-- a device says nothing to a request that begins here
abbrev pub is_silent : Option ℕ → (at : ℕ) → Bool
is_silent (Some silent) at = silent == at
is_silent None at = false

abbrev pub spoken : Image → Option Function → List ℕ → Option (List ℕ)
spoken image (Some function) frame =
    if is_silent image.silent (address frame) then None else Some (answered image function frame)
spoken image None frame = None

-- what the device says to bytes: nothing to what is no request
abbrev pub answer : Image → List ℕ → Option (List ℕ)
answer image frame = spoken image (requested frame) frame
