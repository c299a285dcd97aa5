-- The order by which a map compares its keys.
use Rattle.std.specs.declared.cmp.Ordering.{Ordering}
use Rattle.smq_pair.specs.declared.paired_pdu.Exchange.{Exchange}
use Rattle.smq_pair.specs.contracts.paired_pdu.ExchangeOrd.TheImpl as exchange_ord

abbrev pub exchange_cmp : Exchange → Exchange → Ordering
exchange_cmp = (exchange_ord.ghosts).cmp
