-- The content codes that DAAP servers publish, in their order in /content-codes, with the kinds that this project
-- assigns.
use Rattle.std.specs.Prelude.{List, [], ◌∷◌, codes}
use Prim.Native.String.{String}
use Rattle.dmap_tags.specs.Codes.{code}
use Rattle.dmap_tags.specs.declared.kinds.Kind.{Kind}
use Rattle.dmap_tags.specs.declared.kinds.Kind.TheVariants.{U8, U16, U32, U64, Text, Date, Version, List as Members}
use Rattle.code_table.specs.declared.row.CodeRow.{CodeRow}

abbrev pub row : String → Kind → String → CodeRow
row c kind name = record { code = code c; name = codes name; kind = kind }

abbrev pub standard_rows : List CodeRow
standard_rows =
    row "mstt" U32 "dmap.status" ∷
    row "miid" U32 "dmap.itemid" ∷
    row "mcti" U32 "dmap.containeritemid" ∷
    row "mpco" U32 "dmap.parentcontainerid" ∷
    row "mimc" U32 "dmap.itemcount" ∷
    row "mctc" U32 "dmap.containercount" ∷
    row "mrco" U32 "dmap.returnedcount" ∷
    row "mtco" U32 "dmap.specifiedtotalcount" ∷
    row "mstm" U32 "dmap.timeoutinterval" ∷
    row "msdc" U32 "dmap.databasescount" ∷
    row "mlid" U32 "dmap.sessionid" ∷
    row "musr" U32 "dmap.serverrevision" ∷
    row "mcnm" U32 "dmap.contentcodesnumber" ∷
    row "minm" Text "dmap.itemname" ∷
    row "msts" Text "dmap.statusstring" ∷
    row "mcna" Text "dmap.contentcodesname" ∷
    row "mikd" U8 "dmap.itemkind" ∷
    row "msau" U8 "dmap.authenticationmethod" ∷
    row "mslr" U8 "dmap.loginrequired" ∷
    row "msup" U8 "dmap.supportsupdate" ∷
    row "mspi" U8 "dmap.supportspersistentids" ∷
    row "msbr" U8 "dmap.supportsbrowse" ∷
    row "msqy" U8 "dmap.supportsquery" ∷
    row "msix" U8 "dmap.supportsindex" ∷
    row "muty" U8 "dmap.updatetype" ∷
    row "mper" U64 "dmap.persistentid" ∷
    row "mcty" U16 "dmap.contentcodestype" ∷
    row "mpro" Version "dmap.protocolversion" ∷
    row "apro" Version "daap.protocolversion" ∷
    row "mdcl" Members "dmap.dictionary" ∷
    row "mcon" Members "dmap.container" ∷
    row "mlcl" Members "dmap.listing" ∷
    row "mlit" Members "dmap.listingitem" ∷
    row "mbcl" Members "dmap.bag" ∷
    row "msrv" Members "dmap.serverinforesponse" ∷
    row "mlog" Members "dmap.loginresponse" ∷
    row "mupd" Members "dmap.updateresponse" ∷
    row "mudl" Members "dmap.deletedidlisting" ∷
    row "mccr" Members "dmap.contentcodesresponse" ∷
    row "avdb" Members "daap.serverdatabases" ∷
    row "adbs" Members "daap.databasesongs" ∷
    row "aply" Members "daap.databaseplaylists" ∷
    row "apso" Members "daap.playlistsongs" ∷
    row "abro" Members "daap.databasebrowse" ∷
    row "abar" Members "daap.browseartistlisting" ∷
    row "abal" Members "daap.browsealbumlisting" ∷
    row "abgn" Members "daap.browsegenrelisting" ∷
    row "abcp" Members "daap.browsecomposerlisting" ∷
    row "asar" Text "daap.songartist" ∷
    row "asal" Text "daap.songalbum" ∷
    row "asaa" Text "daap.songalbumartist" ∷
    row "asgn" Text "daap.songgenre" ∷
    row "ascp" Text "daap.songcomposer" ∷
    row "ascm" Text "daap.songcomment" ∷
    row "agrp" Text "daap.songgrouping" ∷
    row "asfm" Text "daap.songformat" ∷
    row "asyr" U16 "daap.songyear" ∷
    row "astn" U16 "daap.songtracknumber" ∷
    row "astc" U16 "daap.songtrackcount" ∷
    row "asdn" U16 "daap.songdiscnumber" ∷
    row "asdc" U16 "daap.songdisccount" ∷
    row "asbr" U16 "daap.songbitrate" ∷
    row "asbt" U16 "daap.songbeatsperminute" ∷
    row "astm" U32 "daap.songtime" ∷
    row "assr" U32 "daap.songsamplerate" ∷
    row "assz" U32 "daap.songsize" ∷
    row "asur" U8 "daap.songuserrating" ∷
    row "asco" U8 "daap.songcompilation" ∷
    row "abpl" U8 "daap.baseplaylist" ∷
    row "aeSP" U8 "com.apple.itunes.smart-playlist" ∷
    row "aeMK" U8 "com.apple.itunes.mediakind" ∷
    row "asda" Date "daap.songdateadded" ∷
    row "asdm" Date "daap.songdatemodified" ∷
    []
