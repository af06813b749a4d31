mod Exporting
