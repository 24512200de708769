use Rattle.std.proofs.Common.{◌≡◌, map, drop}
use Rattle.std.specs.String.{string_bytes}
use Rattle.link_io.specs.Memory.{file_of}
use Rattle.link_io.proofs.mem_shelves.bytes_of.Given as goal

abbrev pub invariant-loop-file : goal.invariant-loop-file
invariant-loop-file l =
    file_of (map (λ file. (string_bytes file.0, file.1.items)) (drop l.file-index l.files)) l.name
    ≡ file_of (map (λ file. (string_bytes file.0, file.1.items)) l.files) l.name
