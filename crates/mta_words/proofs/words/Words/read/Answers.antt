use Rattle.std.proofs.Common.{map, string_bytes, Global}
use Rattle.mta_words.proofs.WordsLaws.{read_found, read_only}
use Rattle.mta_words.proofs.words.Words.read.Goals as goal

pub returns-clause-found : goal.returns-clause-found
returns-clause-found c =
    read_found c.read_words.result (map (string_bytes {Z = Global}) c.args.words.now) c.read_words.ensures

pub returns-clause-only : goal.returns-clause-only
returns-clause-only c =
    read_only c.read_words.result (map (string_bytes {Z = Global}) c.args.words.now) c.read_words.ensures
