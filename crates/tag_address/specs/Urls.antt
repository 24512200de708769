-- URLs: texts that name a device.
use Rattle.std.specs.Prelude.{◌≡◌, ◌≢◌, ℕ, ◌≤◌, ◌⊎◌, min, List, [], ◌∷◌, ◌++◌, codes, decimal}
use Rattle.std.specs.List.{AllByRecursion}
use Rattle.tag_address.specs.declared.urls.Url.{Url}
use Rattle.tag_address.specs.declared.urls.Url.TheVariants as urls
use Rattle.tag_address.specs.Places.{IsRefusedAt}
use Rattle.tag_address.specs.Tags.{colon}

-- a letter, a digit, `.` or `-`
abbrev pub IsHostByte : ℕ → Type 0
IsHostByte b = (b ≡ 45) ⊎ ((b ≡ 46) ⊎ (((48 ≤ b) × (b ≤ 57)) ⊎ (((65 ≤ b) × (b ≤ 90)) ⊎ ((97 ≤ b) × (b ≤ 122)))))

abbrev pub IsHost : List ℕ → Type 0
IsHost host = (host ≢ []) × AllByRecursion IsHostByte host

-- a port behind a colon, or 502 where none is written
abbrev pub IsPort : ℕ → List ℕ → Type 0
IsPort port text = ((text ≡ colon ∷ decimal port) × (1 ≤ port) × (port ≤ 65535)) ⊎ ((text ≡ []) × (port ≡ 502))

-- the unit, or 1 where none is written
abbrev pub IsUnit : ℕ → List ℕ → Type 0
IsUnit unit text = ((text ≡ codes "?unit-identifier=" ++ decimal unit) × (unit ≤ 255)) ⊎ ((text ≡ []) × (unit ≡ 1))

pub record IsModbusUrl (text host : List ℕ) (port unit : ℕ) : Type 0 where
  pub host_is : IsHost host
  pub port_text : List ℕ
  pub unit_text : List ℕ
  pub port_is : IsPort port port_text
  pub unit_is : IsUnit unit unit_text
  pub text_is : text ≡ codes "modbus-tcp://" ++ (host ++ (port_text ++ unit_text))

-- the text is a URL, and names this device; S7 has no URLs so far
abbrev pub IsUrl : List ℕ → Url → Type 0
IsUrl text (urls.Modbus host port unit) = IsModbusUrl text host port unit
IsUrl text (urls.S7 host port local remote pdu) = ⊥

-- The place at which the text leaves the URLs. One that 32 bits don't hold is told as the greatest that they hold.
pub record IsUrlRefused (text : List ℕ) (told : ℕ) : Type 0 where
  pub place : ℕ
  pub at : IsRefusedAt IsUrl text place
  pub told_is : told ≡ min place 4294967295
