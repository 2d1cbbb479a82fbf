-- Demand 3, the sheet check. Assumes nothing.
use Rattle.paper.specs.Sheets.{sheet_reply}
use Rattle.promises.specs.Demands.{SheetSound, SheetComplete, SheetRefuses}
use Rattle.algebra.proofs.SheetSound
use Rattle.algebra.proofs.SheetComplete

pub sheet_sound : SheetSound sheet_reply
sheet_sound = Rattle.algebra.proofs.SheetSound.sheet_sound

pub sheet_complete : SheetComplete sheet_reply
sheet_complete = Rattle.algebra.proofs.SheetComplete.sheet_complete

pub sheet_refuses : SheetRefuses sheet_reply
sheet_refuses c rows count m u w differ sheet lines = Rattle.algebra.proofs.SheetSound.sheet_refuses c rows count m sheet lines u w differ
