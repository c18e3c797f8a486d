-- A spool may go to another thread where its disk and its clock may.
use denote.RattleType.{RattleType}
use denote.Param.Send.{IsSend, sendable, struct_send}
use denote.Struct.Declared.{shape}
use Rattle.mta_edge.specs.declared.outside.Disk as disk
use Rattle.mta_edge.specs.declared.outside.Clock as clock
use Rattle.std.proofs.Crossing.{crosses}
use Rattle.std.proofs.MapsCrossing.{crosses as maps}
use Rattle.mta_name_digest.specs.contracts.places.Places as places
use Rattle.mta_name_text.specs.contracts.pattern.Pattern as pattern
use Rattle.mta_tables.specs.contracts.lists.Lists as lists
use Rattle.mta_tables.specs.contracts.routes.Routes as routes
use Rattle.mta_tables.specs.contracts.mailboxes.Mailboxes as mailboxes
use Rattle.mta_tables.specs.contracts.tables.Tables as tables
use Rattle.mta_replay.proofs.Crossing.{name_send, replay_send}
use Rattle.mta_table_rules.specs.contracts.table_rules.TableRules as rules
use Rattle.mta_spool.specs.contracts.spool.Spool as spool
use Rattle.mta_spool.specs.contracts.spool.Spool.TheInside as inside

pattern_send : IsSend pattern.the_row
pattern_send = search (crosses, sendable) depth 80 fits 100000

places_send : IsSend places.the_row
places_send = search (crosses, maps, sendable) depth 80 fits 100000

lists_send : IsSend lists.the_row
lists_send = let a = name_send in let p = places_send in let b = pattern_send in
    search (crosses, sendable) depth 80 fits 100000

routes_send : IsSend routes.the_row
routes_send = let a = name_send in let p = places_send in let b = pattern_send in
    search (crosses, sendable) depth 80 fits 100000

mailboxes_send : IsSend mailboxes.the_row
mailboxes_send = let a = name_send in let p = places_send in search (crosses, sendable) depth 80 fits 100000

tables_send : IsSend tables.the_row
tables_send = let a = lists_send in let b = routes_send in let c = mailboxes_send in
    search (crosses, sendable) depth 80 fits 100000

rules_send : IsSend rules.the_row
rules_send = let a = tables_send in search (crosses, sendable) depth 80 fits 100000

module _ (D C : RattleType) (d : disk.Ghosts D.Denot) (c : clock.Ghosts C.Denot) where
  inside_send : IsSend D → IsSend C → IsSend (inside.the_field D C d c).row
  inside_send sd sc = struct_send (shape (inside.the_type D C d c)) (
    search (crosses, sendable) depth 20,
    (
      search (crosses, sendable) depth 20,
      (
        search sendable depth 20,
        (
          replay_send rules.the_row rules_send,
          (search sendable depth 20, (search (crosses, sendable) depth 80 fits 100000, tt)),
        ),
      ),
    ),
  )

  pub spool_send : IsSend D → IsSend C → IsSend (spool.the_field D C d c).row
  spool_send sd sc = let a = inside_send sd sc in search sendable depth 20
