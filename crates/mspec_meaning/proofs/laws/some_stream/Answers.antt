use Rattle.node_tree.specs.Bits.{bits_of}
use Rattle.mspec_meaning.proofs.TotalLaws.{some_stream}
use Rattle.mspec_meaning.proofs.laws.some_stream.Goals as goal

pub returns : goal.returns
returns c = λ d def args bytes can. some_stream d def args can 0 (bits_of bytes)
