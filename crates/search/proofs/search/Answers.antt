-- Everything is what `search` asks for.
use Rattle.std.proofs.Common.{refl}
use Rattle.curator.specs.Searches.{wanted_of}
use Rattle.curator.specs.Arguments.{everything}
use Rattle.search.proofs.search.Goals as goal

pub returns : goal.returns
unfolding wanted_of
returns c = c.search_wanted.ensures everything refl
