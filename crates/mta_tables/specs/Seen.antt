-- What contracts see of words that are lent.
use Rattle.mta_tables.specs.declared.line.PeerWords.{PeerWords}
use Rattle.mta_tables.specs.Lines.{PeerText}

abbrev pub words_seen : PeerWords → PeerText
words_seen w = record {
  name = w.name.now;
  send = w.send.now;
  expected = w.expected.now;
  mode = w.mode.now;
  size = w.size.now;
  window = w.window.now;
}
