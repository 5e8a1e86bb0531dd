-- Parts one after the other.
use Rattle.std.proofs.Common.{◌≡◌, List, [], ◌∷◌, ◌++◌, refl, sym, ap, subst, ◌∙◌}
use Rattle.office_types.specs.declared.office.OfficeState.{OfficeState}
use Rattle.actor_tree.specs.declared.part.Part.{Part}
use Rattle.actor_tree.specs.Parts.{CanPut, CanPutAll, put, put_part}
use Rattle.actor_tree.proofs.NoteListLemmas.{fold_push}

-- one part more
pub put_push : (office : OfficeState) (parts : List Part) (part : Part) → put office (parts ++ part ∷ []) ≡ put_part (put office parts) part
put_push office parts part = fold_push put_part office parts part

pub fits_push : (office : OfficeState) (parts : List Part) (part : Part) → CanPutAll office parts → CanPut (put office parts) part → CanPutAll office (parts ++ part ∷ [])
fits_push office [] part fits can = (can, tt)
fits_push office (first ∷ parts) part fits can = (fits.0, fits_push (put_part office first) parts part fits.1 can)
