-- A text is refused for one fault at most, and never means definitions too.
use Rattle.std.proofs.Common.{◌≡◌, ℕ, List, [], ◌∷◌, ◌++◌, Option, Some, refl, sym, ap, ◌∙◌, subst, arith}
use Rattle.std.specs.Prelude.{Err, codes}
use Rattle.std.specs.List.{AllZip}
use Rattle.ordered_json.specs.declared.json.OrderedJson.{OrderedJson}
use Rattle.ordered_json.specs.Laws.{FaultIsUnique, MeaningExcludesFault, MeaningIsUnique}
use Rattle.ordered_json.specs.Meaning.{Means}
use Rattle.ordered_json.specs.Words.{as_list, as_object, get}
use Rattle.machine_json.specs.declared.fault.MachineFault.{MachineFault}
use Rattle.machine_json.specs.declared.machine.Machine.{Machine}
use Rattle.machine_json.specs.FirstFaults.{IsLeastPlace}
use Rattle.machine_json.specs.Laws.{MachineMeansOnce}
use Rattle.machine_json.specs.Machines.{IsAnsweredFault, MeansMachine}
use Rattle.action_table.specs.declared.definitions.Defs.{Defs}
use Rattle.action_table.specs.declared.defs_fault.DefsFault.{DefsFault}
use Rattle.action_table.specs.declared.defs_fault.DefsFault.TheVariants as fault_in
use Rattle.action_table.specs.declared.fault.TableFault.TheVariants as table_fault
use Rattle.action_table.specs.declared.role.TableRole.TheVariants as role
use Rattle.action_table.specs.declared.table.Table.{Table}
use Rattle.action_table.specs.DefsText.{IsFirstRefused, IsOuterText, IsRefusedDefs, MeansDefs, a_machine, linking, no_json, outer_shape, the_table}
use Rattle.action_table.specs.Laws.{LinkAnswersOnce, TableMeansOnce}
use Rattle.action_table.specs.Linked.{IsLinkReading}
use Rattle.action_table.specs.OuterShape.{HasShapeFault}
use Rattle.action_table.specs.TableMeaning.{IsTableOf}
use Rattle.action_table.specs.TablePlaces.{HasTableFault}

both-some : {A : Type 0} (o : Option A) (a b : A) → o ≡ Some a → o ≡ Some b → a ≡ b
both-some o a b is_a is_b = let both : Some a ≡ Some b = sym is_a ∙ is_b in cc

one-place : (IsThere : ℕ → Type 0) (p q : ℕ) → IsLeastPlace IsThere p → IsLeastPlace IsThere q → p ≡ q
one-place IsThere p q least other = omega (arith, least.no_earlier q other.there, other.no_earlier p least.there)

-- what the laws below say of JSON, machines, tables and linking
pub record LowerLaws : Type 0 where
  pub one_json : MeaningIsUnique
  pub no_json_fault : MeaningExcludesFault
  pub one_json_fault : FaultIsUnique
  pub machine : MachineMeansOnce
  pub table : TableMeansOnce
  pub link : LinkAnswersOnce

module _ (laws : LowerLaws) (text : List ℕ) where
  -- ---- the parts of a text

  parts-same : (ts us : List OrderedJson) (i j : OrderedJson) → IsOuterText text ts i → IsOuterText text us j → (ts ≡ us) × (i ≡ j)
  parts-same ts us i j a b =
      let same : a.json ≡ b.json = laws.one_json text a.json b.json a.means b.means in
      let members : a.shape.members ≡ b.shape.members =
      both-some (as_object a.json) a.shape.members b.shape.members a.shape.members_are (ap as_object same ∙ b.shape.members_are) in
      let list : a.shape.list ≡ b.shape.list =
      both-some (get (codes "machines") a.shape.members) a.shape.list b.shape.list a.shape.list_is (ap (get (codes "machines")) members ∙ b.shape.list_is) in (
        both-some (as_list a.shape.list) ts us a.shape.machines_are (ap as_list list ∙ b.shape.machines_are),
        both-some (get (codes "implementations") a.shape.members) i j a.shape.table_is (ap (get (codes "implementations")) members ∙ b.shape.table_is),
      )

  machines-same : (ts : List OrderedJson) (ms ns : List Machine) → AllZip MeansMachine ts ms → AllZip MeansMachine ts ns → ms ≡ ns
  machines-same [] [] [] a b = refl
  machines-same [] [] (n ∷ ns) a b = absurd b
  machines-same [] (m ∷ ms) ns a b = absurd a
  machines-same (t ∷ ts) [] ns a b = absurd a
  machines-same (t ∷ ts) (m ∷ ms) [] a b = absurd b
  machines-same (t ∷ ts) (m ∷ ms) (n ∷ ns) a b =
      ap (λ x. x ∷ ms) (laws.machine.one_machine t m n a.0 b.0) ∙ ap (λ l. n ∷ l) (machines-same ts ms ns a.1 b.1)

  -- ---- what each place of looking rules out

  shape-no : (json : OrderedJson) (place : ℕ) (ts : List OrderedJson) (i : OrderedJson) → Means text json → IsLeastPlace (HasShapeFault json) place → IsOuterText text ts i → ⊥
  shape-no json place ts i means least outer =
      outer.shape.faultless place (subst (λ j. HasShapeFault j place) (laws.one_json text json outer.json means outer.means) least.there)

  middle-means : (earlier : List OrderedJson) (t : OrderedJson) (later : List OrderedJson) (ms : List Machine) → AllZip MeansMachine (earlier ++ t ∷ later) ms → (m : Machine) × MeansMachine t m
  middle-means [] t later [] all = absurd all
  middle-means [] t later (m ∷ ms) all = (m, all.0)
  middle-means (e ∷ earlier) t later [] all = absurd all
  middle-means (e ∷ earlier) t later (m ∷ ms) all = middle-means earlier t later ms all.1

  machine-no : (ts us : List OrderedJson) (i j : OrderedJson) (fault : MachineFault) (ms : List Machine) → IsOuterText text ts i → IsFirstRefused ts fault
      → IsOuterText text us j → AllZip MeansMachine us ms → ⊥
  machine-no ts us i j fault ms outer first other mean =
      let same = parts-same us ts j i other outer in
      let found = middle-means first.earlier first.refused first.later ms (subst (λ l. AllZip MeansMachine l ms) (same.0 ∙ first.texts_are) mean) in
      laws.machine.never_both first.refused found.0 fault found.1 first.is_refused

  table-no : (ts us : List OrderedJson) (i j : OrderedJson) (place : ℕ) (table : Table) → IsOuterText text ts i → IsLeastPlace (HasTableFault role.Implementations i) place
      → IsOuterText text us j → IsTableOf j table → ⊥
  table-no ts us i j place table outer least other means =
      laws.table.never_both i table place (subst (λ k. IsTableOf k table) ((parts-same us ts j i other outer).1) means) least

  -- ---- never both

  pub never-both : (defs : Defs) (fault : DefsFault) → MeansDefs text defs → IsRefusedDefs text fault → ⊥
  never-both defs _ means (no_json fault has is_fault) = laws.no_json_fault text means.outer.json fault is_fault means.outer.means has
  never-both defs _ means (outer_shape json place is least) = shape-no json place means.texts means.implementations is least means.outer
  never-both defs _ means (a_machine ts i fault outer first) =
      machine-no ts means.texts i means.implementations fault means.machines outer first means.outer means.machines_mean
  never-both defs _ means (the_table ts i ms place outer mean least) = table-no ts means.texts i means.implementations place means.table outer least means.outer means.table_means
  never-both defs _ means (linking ts i ms table fault outer mean is_table reading is_fault) =
      let same = parts-same means.texts ts means.implementations i means.outer outer in
      let tables : table ≡ means.table = laws.table.one_table i table means.table is_table (subst (λ k. IsTableOf k means.table) same.1 means.table_means) in
      let machines : ms ≡ means.machines = machines-same ts ms means.machines mean (subst (λ l. AllZip MeansMachine l means.machines) same.0 means.machines_mean) in
      laws.link.never_both means.machines means.table defs fault is_fault means.linked
      (subst (λ l. IsLinkReading l means.table (Err fault)) machines (subst (λ t. IsLinkReading ms t (Err fault)) tables reading))

  -- ---- one fault

  first-same : (es fs : List OrderedJson) (r s : OrderedJson) (ls ks : List OrderedJson) (ms ns : List Machine) (fault other : MachineFault) → es ++ r ∷ ls ≡ fs ++ s ∷ ks
      → AllZip MeansMachine es ms → AllZip MeansMachine fs ns → IsAnsweredFault r fault → IsAnsweredFault s other → fault ≡ other
  first-same [] [] r s ls ks ms ns fault other is a b x y = let same : r ≡ s = cc in laws.machine.one_fault s fault other (subst (λ t. IsAnsweredFault t fault) same x) y
  first-same [] (f ∷ fs) r s ls ks ms [] fault other is a b x y = absurd b
  first-same [] (f ∷ fs) r s ls ks ms (n ∷ ns) fault other is a b x y =
      let same : r ≡ f = cc in absurd (laws.machine.never_both f n fault b.0 (subst (λ t. IsAnsweredFault t fault) same x))
  first-same (e ∷ es) [] r s ls ks [] ns fault other is a b x y = absurd a
  first-same (e ∷ es) [] r s ls ks (m ∷ ms) ns fault other is a b x y =
      let same : e ≡ s = cc in absurd (laws.machine.never_both s m other (subst (λ t. MeansMachine t m) same a.0) y)
  first-same (e ∷ es) (f ∷ fs) r s ls ks [] ns fault other is a b x y = absurd a
  first-same (e ∷ es) (f ∷ fs) r s ls ks (m ∷ ms) [] fault other is a b x y = absurd b
  first-same (e ∷ es) (f ∷ fs) r s ls ks (m ∷ ms) (n ∷ ns) fault other is a b x y =
      let rest : es ++ r ∷ ls ≡ fs ++ s ∷ ks = cc in first-same es fs r s ls ks ms ns fault other rest a.1 b.1 x y

  pub one-fault : (fault other : DefsFault) → IsRefusedDefs text fault → IsRefusedDefs text other → fault ≡ other
  one-fault _ _ (no_json f has real) (no_json g other_has other_real) = ap fault_in.Json (laws.one_json_fault text f g real other_real has other_has)
  one-fault _ _ (no_json f has real) (outer_shape json place is least) = absurd (laws.no_json_fault text json f real is has)
  one-fault _ _ (no_json f has real) (a_machine ts i g outer first) = absurd (laws.no_json_fault text outer.json f real outer.means has)
  one-fault _ _ (no_json f has real) (the_table ts i ms place outer mean least) = absurd (laws.no_json_fault text outer.json f real outer.means has)
  one-fault _ _ (no_json f has real) (linking ts i ms table g outer mean is_table reading is_fault) = absurd (laws.no_json_fault text outer.json f real outer.means has)
  one-fault _ _ (outer_shape json place is least) (no_json g has real) = absurd (laws.no_json_fault text json g real is has)
  one-fault _ _ (outer_shape json place is least) (outer_shape other q other_is other_least) =
      let same : other ≡ json = laws.one_json text other json other_is is in
      ap (λ p. fault_in.Table (table_fault.UnknownForm p)) (one-place (HasShapeFault json) place q least (subst (λ j. IsLeastPlace (HasShapeFault j) q) same other_least))
  one-fault _ _ (outer_shape json place is least) (a_machine ts i g outer first) = absurd (shape-no json place ts i is least outer)
  one-fault _ _ (outer_shape json place is least) (the_table ts i ms q outer mean other) = absurd (shape-no json place ts i is least outer)
  one-fault _ _ (outer_shape json place is least) (linking ts i ms table g outer mean is_table reading is_fault) = absurd (shape-no json place ts i is least outer)
  one-fault _ _ (a_machine ts i f outer first) (no_json g has real) = absurd (laws.no_json_fault text outer.json g real outer.means has)
  one-fault _ _ (a_machine ts i f outer first) (outer_shape json place is least) = absurd (shape-no json place ts i is least outer)
  one-fault _ _ (a_machine ts i f outer first) (a_machine us j g other second) =
      let same = parts-same ts us i j outer other in
      ap fault_in.Machine (first-same first.earlier second.earlier first.refused second.refused first.later second.later first.read second.read f g
      (sym first.texts_are ∙ same.0 ∙ second.texts_are) first.earlier_mean second.earlier_mean first.is_refused second.is_refused)
  one-fault _ _ (a_machine ts i f outer first) (the_table us j ms place other mean least) = absurd (machine-no ts us i j f ms outer first other mean)
  one-fault _ _ (a_machine ts i f outer first) (linking us j ms table g other mean is_table reading is_fault) = absurd (machine-no ts us i j f ms outer first other mean)
  one-fault _ _ (the_table ts i ms place outer mean least) (no_json g has real) = absurd (laws.no_json_fault text outer.json g real outer.means has)
  one-fault _ _ (the_table ts i ms place outer mean least) (outer_shape json q is other) = absurd (shape-no json q ts i is other outer)
  one-fault _ _ (the_table ts i ms place outer mean least) (a_machine us j g other first) = absurd (machine-no us ts j i g ms other first outer mean)
  one-fault _ _ (the_table ts i ms place outer mean least) (the_table us j ns q other other_mean other_least) =
      let same = parts-same us ts j i other outer in
      ap (λ p. fault_in.Table (table_fault.UnknownForm p))
      (one-place (HasTableFault role.Implementations i) place q least (subst (λ k. IsLeastPlace (HasTableFault role.Implementations k) q) same.1 other_least))
  one-fault _ _ (the_table ts i ms place outer mean least) (linking us j ns table g other other_mean is_table reading is_fault) =
      absurd (table-no ts us i j place table outer least other is_table)
  one-fault _ _ (linking ts i ms table f outer mean is_table reading is_fault) (no_json g has real) = absurd (laws.no_json_fault text outer.json g real outer.means has)
  one-fault _ _ (linking ts i ms table f outer mean is_table reading is_fault) (outer_shape json q is other) = absurd (shape-no json q ts i is other outer)
  one-fault _ _ (linking ts i ms table f outer mean is_table reading is_fault) (a_machine us j g other first) = absurd (machine-no us ts j i g ms other first outer mean)
  one-fault _ _ (linking ts i ms table f outer mean is_table reading is_fault) (the_table us j ns q other other_mean least) =
      absurd (table-no us ts j i q table other least outer is_table)
  one-fault _ _ (linking ts i ms table f outer mean is_table reading is_fault) (linking us j ns other_table g other other_mean other_is other_reading other_fault) =
      let same = parts-same us ts j i other outer in
      let tables : other_table ≡ table = laws.table.one_table i other_table table (subst (λ k. IsTableOf k other_table) same.1 other_is) is_table in
      let machines : ns ≡ ms = machines-same ts ns ms (subst (λ l. AllZip MeansMachine l ns) same.0 other_mean) mean in
      ap fault_in.Table (laws.link.one_fault ms table f g is_fault other_fault reading
      (subst (λ l. IsLinkReading l table (Err g)) machines (subst (λ t. IsLinkReading ns t (Err g)) tables other_reading)))
