use Rattle.key_slot.proofs.TableLemmas.{entry}
use Rattle.key_slot.proofs.crc16_table.crc_of_byte.Goals as goal

pub returns : goal.returns
returns c = entry c.args.byte c.ranges.byte.fits
