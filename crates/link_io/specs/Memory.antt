-- What a stream or a shelf of files in memory is: what it gives and takes, and which of its calls fail.
use Rattle.std.specs.Prelude.{ℕ, ◌-◌, ◌%◌, ◌==◌, ◌≡◌, ◌⊎◌, if◌then◌else◌, List, ◌++◌, length, take, drop, min, sum, find, slice_index, slice_set, Contains, Option, None, Some, is_none, IsTrue}
use Rattle.std.proofs.Common.{refl}
use Rattle.std.specs.Option.{option_map}
use Rattle.std.specs.Str.{bytes_eq}
use Rattle.link_io.specs.Counts.{next}
use Rattle.link_io.specs.Streams.{Tape}

-- how many calls were made, and the numbers, from 1, of those that fail
pub record CallState : Type 0 where
  pub made : ℕ
  pub failing : List ℕ

-- the call that comes next fails
abbrev pub NextFails : CallState → Type 0
NextFails calls = Contains calls.failing (next calls.made)

-- one more call was made
abbrev pub after_call : CallState → CallState
after_call calls = record calls { made = next calls.made }

-- a source: its bytes, the greatest piece that a read gives, its calls and counts
pub record SourceState : Type 0 where
  pub tape : Tape
  pub piece : ℕ
  pub calls : CallState
  pub faults : ℕ
  pub ends : ℕ

-- how many bytes a read takes into so much room
abbrev pub read_count : SourceState → ℕ → ℕ
read_count source room = min room (min (length source.tape.left) source.piece)

-- the source after a read that gave so many bytes
abbrev pub after_read : SourceState → ℕ → SourceState
after_read source count =
    record source {
      tape = record { given = source.tape.given ++ take count source.tape.left; left = drop count source.tape.left };
      calls = after_call source.calls;
      ends = if count == 0 then next source.ends else source.ends;
    }

-- the source after a read that failed
abbrev pub after_failed_read : SourceState → SourceState
after_failed_read source =
    record source { calls = after_call source.calls; faults = next source.faults }

-- a sink: what it holds, how many bytes it may hold, the greatest piece that a write takes, its calls and faults
pub record SinkState : Type 0 where
  pub held : List ℕ
  pub room : ℕ
  pub piece : ℕ
  pub calls : CallState
  pub faults : ℕ

-- how many of so many bytes a write takes
abbrev pub write_count : SinkState → ℕ → ℕ
write_count sink count = min count (min (sink.room - length sink.held) sink.piece)

-- the sink after a write that took these bytes; to take none is a fault
abbrev pub after_write : SinkState → List ℕ → SinkState
after_write sink bytes =
    record sink {
      held = sink.held ++ bytes;
      calls = after_call sink.calls;
      faults = if length bytes == 0 then next sink.faults else sink.faults;
    }

-- the sink after a call that failed
abbrev pub after_failed_call : SinkState → SinkState
after_failed_call sink = record sink { calls = after_call sink.calls; faults = next sink.faults }

-- the bytes of the first file of a name, among pairs of a name and bytes
abbrev pub file_of : List (List ℕ × List ℕ) → List ℕ → Option (List ℕ)
file_of files name = option_map (λ file. file.1) (find (λ file. bytes_eq file.0 name) files)

-- where a shelf has no file, it shows none
pub none_where_lacking : (file : Option (List ℕ)) → IsTrue (is_none file) → file ≡ None
none_where_lacking None lacks = refl
none_where_lacking (Some bytes) lacks = absurd (cc)

-- a shelf: its files, the greatest piece that a read gives, its calls, and 256 counts of faults
pub record ShelfState : Type 0 where
  pub files : List (List ℕ × List ℕ)
  pub piece : ℕ
  pub calls : CallState
  pub counts : List ℕ

-- the place of a name's count; names of one place are counted together
abbrev pub place_of : List ℕ → ℕ
place_of name = sum name % 256

-- how often a call that gave this name has failed
abbrev pub faults_of : ShelfState → List ℕ → ℕ
faults_of shelf name = slice_index shelf.counts (place_of name)

-- a read of this name fails
abbrev pub ReadFails : ShelfState → List ℕ → Type 0
ReadFails shelf name = NextFails shelf.calls ⊎ (file_of shelf.files name ≡ None)

-- the shelf after a read of this name that failed
abbrev pub after_failed_read_of : ShelfState → List ℕ → ShelfState
after_failed_read_of shelf name =
    record shelf {
      calls = after_call shelf.calls;
      counts = slice_set shelf.counts (place_of name) (next (faults_of shelf name));
    }
