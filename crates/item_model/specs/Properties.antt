-- The properties of an item, as DAAP names them: each has a content code, a name, a kind of values and a rank in
-- the order of listings.
use Rattle.std.specs.Prelude.{Bool, ◌==◌, ℕ, List, [], ◌∷◌, Option, codes}
use Rattle.std.specs.List.{find}
use Rattle.std.specs.Str.{bytes_eq}
use Rattle.dmap_tags.specs.Codes.{Four, code, code_bytes}
use Rattle.dmap_tags.specs.declared.kinds.Kind.{Kind}
use Rattle.dmap_tags.specs.declared.kinds.Kind.TheVariants.{U8, U16, U32, U64, Text, Date}
use Rattle.item_model.specs.declared.property.Property.{Property}
use Rattle.item_model.specs.declared.property.Property.TheVariants.{Minm, Mikd, Mper, Asar, Asal, Asaa, Asgn, Ascp, Ascm, Agrp, Asfm, Asyr, Astn, Astc, Asdn, Asdc, Asbr, Asbt, Astm, Assr, Assz, Asur, Asco, Aemk, Asda, Asdm}

-- the content code of a property's tags, its name in queries, records and the `meta` parameter, and the
-- kind of its values
abbrev pub property_row : Property → Four × List ℕ × Kind
property_row Minm = (code "minm", codes "dmap.itemname", Text)
property_row Mikd = (code "mikd", codes "dmap.itemkind", U8)
property_row Mper = (code "mper", codes "dmap.persistentid", U64)
property_row Asar = (code "asar", codes "daap.songartist", Text)
property_row Asal = (code "asal", codes "daap.songalbum", Text)
property_row Asaa = (code "asaa", codes "daap.songalbumartist", Text)
property_row Asgn = (code "asgn", codes "daap.songgenre", Text)
property_row Ascp = (code "ascp", codes "daap.songcomposer", Text)
property_row Ascm = (code "ascm", codes "daap.songcomment", Text)
property_row Agrp = (code "agrp", codes "daap.songgrouping", Text)
property_row Asfm = (code "asfm", codes "daap.songformat", Text)
property_row Asyr = (code "asyr", codes "daap.songyear", U16)
property_row Astn = (code "astn", codes "daap.songtracknumber", U16)
property_row Astc = (code "astc", codes "daap.songtrackcount", U16)
property_row Asdn = (code "asdn", codes "daap.songdiscnumber", U16)
property_row Asdc = (code "asdc", codes "daap.songdisccount", U16)
property_row Asbr = (code "asbr", codes "daap.songbitrate", U16)
property_row Asbt = (code "asbt", codes "daap.songbeatsperminute", U16)
property_row Astm = (code "astm", codes "daap.songtime", U32)
property_row Assr = (code "assr", codes "daap.songsamplerate", U32)
property_row Assz = (code "assz", codes "daap.songsize", U32)
property_row Asur = (code "asur", codes "daap.songuserrating", U8)
property_row Asco = (code "asco", codes "daap.songcompilation", U8)
property_row Aemk = (code "aeMK", codes "com.apple.itunes.mediakind", U8)
property_row Asda = (code "asda", codes "daap.songdateadded", Date)
property_row Asdm = (code "asdm", codes "daap.songdatemodified", Date)

abbrev pub property_code : Property → Four
property_code p = (property_row p).0

abbrev pub property_name : Property → List ℕ
property_name p = (property_row p).1

abbrev pub property_kind : Property → Kind
property_kind p = (property_row p).2

-- the index of a property in the order of listings
abbrev pub rank_of : Property → ℕ
rank_of Minm = 0
rank_of Mikd = 1
rank_of Mper = 2
rank_of Asar = 3
rank_of Asal = 4
rank_of Asaa = 5
rank_of Asgn = 6
rank_of Ascp = 7
rank_of Ascm = 8
rank_of Agrp = 9
rank_of Asfm = 10
rank_of Asyr = 11
rank_of Astn = 12
rank_of Astc = 13
rank_of Asdn = 14
rank_of Asdc = 15
rank_of Asbr = 16
rank_of Asbt = 17
rank_of Astm = 18
rank_of Assr = 19
rank_of Assz = 20
rank_of Asur = 21
rank_of Asco = 22
rank_of Aemk = 23
rank_of Asda = 24
rank_of Asdm = 25

-- how many properties there are
abbrev pub property_count : ℕ
property_count = 26

abbrev pub is_same : Property → Property → Bool
is_same p q = rank_of p == rank_of q

-- all properties, in the order of listings
abbrev pub all_properties : List Property
all_properties =
    Minm ∷ Mikd ∷ Mper ∷ Asar ∷ Asal ∷ Asaa ∷ Asgn ∷ Ascp ∷ Ascm ∷ Agrp ∷ Asfm ∷ Asyr ∷ Astn ∷ Astc ∷ Asdn ∷ Asdc ∷ Asbr
    ∷ Asbt ∷ Astm ∷ Assr ∷ Assz ∷ Asur ∷ Asco ∷ Aemk ∷ Asda ∷ Asdm ∷ []

-- the property with a name, or None
unfoldable pub property_named : List ℕ → Option Property
property_named name = find (λ p. bytes_eq (property_name p) name) all_properties

-- the property with a content code, or None
unfoldable pub property_coded : Four → Option Property
property_coded c = find (λ p. bytes_eq (code_bytes (property_code p)) (code_bytes c)) all_properties
